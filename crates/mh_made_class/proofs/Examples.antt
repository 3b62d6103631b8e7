-- Made classes, by example.
use Rattle.std.proofs.Common.{◌≡◌, [], ◌∷◌, codes, length, refl, arith}
use Rattle.mh_values.proofs.Sound.{descriptor_sound}
use Rattle.mh_classfile.specs.Class.{Class}
use Rattle.mh_classfile.specs.File.{IsClassFile}
use Rattle.mh_made_class.specs.declared.site.MadeArg.TheVariants as args
use Rattle.mh_made_class.specs.declared.site.MadeSite.{MadeSite}
use Rattle.mh_made_class.specs.Sites.{AreMakeable}
use Rattle.mh_made_class.specs.Layout.{sites_from}
use Rattle.mh_made_class.specs.Constants.{entry_bytes, pool_of}
use Rattle.mh_made_class.specs.Parts.{attribute, code, code_contents, methods, bootstraps, class_attributes}
use Rattle.mh_made_class.specs.File.{made_class}
use Rattle.mh_made_class.specs.ReadBack.{IsReadable, HasSites}
use Rattle.mh_made_class.proofs.MadeFile.{reads_back}

no_sites : length (made_class []) ≡ 271
unfolding made_class pool_of entry_bytes sites_from methods attribute code_contents code class_attributes bootstraps
no_sites = refl

-- a call site of the script `link` and the type `(II)I`, with the text `x`
a_site : MadeSite
a_site = record { script = codes "link"; ty = codes "(II)I"; args = args.Str (codes "x") ∷ [] }

can_be_made : AreMakeable (a_site ∷ [])
unfolding a_site
can_be_made =
    record {
      each = (
        record {
          script = record {
            ascii = ((omega arith, omega arith), ((omega arith, omega arith), ((omega arith, omega arith), ((omega arith, omega arith), tt))));
            short = omega arith;
          };
          ty = record {
            ascii = (
              (omega arith, omega arith),
              ((omega arith, omega arith), ((omega arith, omega arith), ((omega arith, omega arith), ((omega arith, omega arith), tt)))),
            );
            short =
                omega arith;
          };
          args = (record { ascii = ((omega arith, omega arith), tt); short = omega arith }, tt);
        },
        tt,
      );
      few = omega arith;
    }

can_be_read : IsReadable a_site
unfolding a_site
can_be_read = record { ty = descriptor_sound (codes "(II)I") refl; args = (tt, tt) }

-- its file is a class file, of a class with just this call site
is_class_file : (c : Class) × IsClassFile 1 (made_class (a_site ∷ [])) c × HasSites (a_site ∷ []) c
is_class_file = reads_back (a_site ∷ []) can_be_made (can_be_read, tt) 1 (omega arith)
