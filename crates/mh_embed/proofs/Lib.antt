mod FirstSplit
