mod Host
