-- The listing of call sites: a line for each `invokedynamic` instruction, and a line with their number.
use Rattle.std.specs.Prelude.{ℕ, ◌+◌, List, [], ◌∷◌, ◌++◌, codes, length, Option, None, Some, slice_get}
use Rattle.std.specs.Fmt.{decimal}
use Rattle.mh_texts.specs.Text.{shown_text}
use Rattle.mh_class_bytes.specs.Chars.{shown_text as shown_chars}
use Rattle.mh_classfile.specs.declared.constant.HandleRef.{HandleRef}
use Rattle.mh_classfile.specs.declared.constant.SiteView.{SiteView}
use Rattle.mh_classfile.specs.Class.{Class, Bootstrap}

-- a text of a class file as it is printed: its characters, U+FFFD for each half of a pair that stands alone, escaped and cut
abbrev pub printed : List ℕ → List ℕ
printed text = shown_text (shown_chars text)

-- a method handle: its kind, and `OWNER.NAME:DESC`
abbrev pub handle_text : HandleRef → List ℕ
handle_text h = decimal h.kind ++ codes " " ++ printed h.owner ++ codes "." ++ printed h.name ++ codes ":" ++ printed h.descriptor

-- the bootstrap method of a site; each site has one
abbrev pub bootstrap_text : Option Bootstrap → List ℕ
bootstrap_text None = []
bootstrap_text (Some b) = handle_text b.handle

-- where a site stands: `site K METHOD:DESC PC`
abbrev pub place_text : ℕ → SiteView → List ℕ
place_text k s = codes "site " ++ decimal k ++ codes " " ++ printed s.method ++ codes ":" ++ printed s.method_descriptor ++ codes " " ++ decimal s.pc

-- what a site calls: `SITENAME TYPE`
abbrev pub call_text : SiteView → List ℕ
call_text s = printed s.name ++ codes " " ++ printed s.descriptor

-- `site K METHOD:DESC PC KIND OWNER.NAME:DESC SITENAME TYPE`
abbrev pub site_line : ℕ → Class → SiteView → List ℕ
site_line k c s = place_text k s ++ codes " " ++ bootstrap_text (slice_get c.bootstraps s.bootstrap) ++ codes " " ++ call_text s ++ codes "\n"

-- the lines of sites of a class that are counted from a number
abbrev pub lines_from : ℕ → Class → List SiteView → List ℕ
lines_from k c [] = []
lines_from k c (s ∷ sites) = site_line k c s ++ lines_from (k + 1) c sites

-- `sites N`
abbrev pub count_line : ℕ → List ℕ
count_line n = codes "sites " ++ decimal n ++ codes "\n"

-- the listing of classes whose sites are counted from a number, one class after the other
abbrev pub listing_from : ℕ → List Class → List ℕ
listing_from k [] = count_line k
listing_from k (c ∷ classes) = lines_from k c c.sites ++ listing_from (k + length c.sites) classes

-- the listing of classes
abbrev pub listing : List Class → List ℕ
listing classes = listing_from 0 classes
