-- Where call sites stand: in which class file and method, and with which name and type.
use Rattle.std.specs.Prelude.{ℕ, List, ◌++◌, codes, map}
use Rattle.mh_texts.specs.Text.{shown_text}
use Rattle.mh_listing.specs.Listing.{printed}
use Rattle.mh_classfile.specs.declared.constant.SiteView.{SiteView}
use Rattle.mh_drawing.specs.declared.place.Place.{Place}

-- the place of a call site in the class file of this name, with texts as they are printed
abbrev pub place_of : List ℕ → SiteView → Place
place_of name site = record {
  class = shown_text name;
  method = printed site.method ++ codes ":" ++ printed site.method_descriptor;
  ty = printed site.name ++ codes " " ++ printed site.descriptor;
}

-- the places of call sites in order
abbrev pub places_of : List ℕ → List SiteView → List Place
places_of name sites = map (place_of name) sites
