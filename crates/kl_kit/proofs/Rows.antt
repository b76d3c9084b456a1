-- The grammar on small texts, by computation.
use Rattle.std.specs.Prelude.{false, ◌≡◌, [], ◌∷◌, Some, None, refl, codes, slice_get}
use Rattle.kl_model.specs.declared.object.Part.TheVariants.{Head, Drawn}
use Rattle.kl_model.specs.declared.kit.KitKind.TheVariants.{Kernel}
use Rattle.kl_kit.specs.IndexTexts.{index_faults, index_of}
use Rattle.kl_kit.specs.Keywords.{keyword_of}
use Rattle.kl_kit.specs.KitTexts.{kit_faults, kit_of}
use Rattle.kl_kit.specs.declared.fault.KitFault.TheVariants as fault
use Rattle.kl_kit.specs.declared.fault.Needed.TheVariants as needed

kind_again : slice_get (kit_faults (codes "kind kernel\nkind kernel\n")) 0 ≡ Some (fault.Misplaced 2)
unfolding kit_faults keyword_of
kind_again = refl

kind_alone : slice_get (kit_faults (codes "kind library")) 0 ≡ Some (fault.Missing needed.Output)
unfolding kit_faults keyword_of
kind_alone = refl

one_name : slice_get (kit_faults (codes "kind kernel\nrun .x text a a\n")) 0 ≡ Some (fault.Twice 2)
unfolding kit_faults keyword_of
one_name = refl

small_kit : kit_faults (codes "kind kernel\noutput /bsd\nentry start\nhead locore.o\nobject a.o\n") ≡ []
unfolding kit_faults keyword_of
small_kit = refl

small_kit_is : kit_of (codes "kind kernel\noutput /bsd\nentry start\nhead locore.o\nobject a.o\n") ≡ record {
  kind = Kernel;
  output = codes "/bsd";
  base = 0xffffffff81000000;
  entry = Some (codes "start");
  inputs = record { place = Head; file = codes "locore.o"; line = 4 } ∷ record { place = Drawn; file = codes "a.o"; line = 5 } ∷ [];
  runs = [];
  edges = [];
  drops = [];
  needed = [];
  exports = [];
  soname = None;
  symbolic = false;
  refuse = false;
}
unfolding kit_of keyword_of
small_kit_is = refl

one_output : slice_get (index_faults (codes "library /usr/share/relink/a /usr/lib/a.so\nlibrary /usr/share/relink/b /usr/lib/a.so\n")) 0 ≡ Some (fault.Twice 2)
unfolding index_faults
one_output = refl

kept_output : slice_get (index_faults (codes "library /usr/share/relink/a /usr/lib/linked\n")) 0 ≡ Some (fault.Reserved 1)
unfolding index_faults
kept_output = refl

comments_alone : slice_get (index_faults (codes "# none\n\n# yet")) 0 ≡ Some (fault.Missing needed.Library)
unfolding index_faults
comments_alone = refl

small_index : index_faults (codes "# one\nlibrary /usr/share/relink/a /usr/lib/a.so") ≡ []
unfolding index_faults
small_index = refl

small_index_is : index_of (codes "# one\nlibrary /usr/share/relink/a /usr/lib/a.so") ≡ record { dir = codes "/usr/share/relink/a"; output = codes "/usr/lib/a.so"; line = 2 } ∷ []
unfolding index_of
small_index_is = refl
