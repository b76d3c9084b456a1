use Rattle.std.proofs.Common.{ℕ, ◌≡◌, true, false, List, refl, sym}
use Rattle.std.specs.Prelude.{unwrap_or}
use Rattle.std.specs.FinMap.{empty, get, insert, get-empty, get-insert}
use Rattle.std.specs.Ordering.{nat_cmp}
use Rattle.std.specs.Cmp.Lexicographic.{slice_cmp}
use Rattle.std.specs.Str.{bytes_eq}
use Rattle.std.proofs.lemmas.Cmp.{nat_list_cmp_total}
use Rattle.std.proofs.lemmas.Map.Text.{is_eq-slice_cmp}
use Rattle.kl_image.specs.Resolvers.{Numbers}
use Rattle.library_tests.proofs.linked.ExitsResolver.resolve.Goals as goal

-- no names
none : Numbers
none = empty

known : (key name : List ℕ) → bytes_eq name key ≡ true → 0x1234 ≡ unwrap_or (get (insert none key 0x1234) name) 0
known key name same = rw (get-insert nat_list_cmp_total none key 0x1234 name, is_eq-slice_cmp name key, same) refl

unknown : (key name : List ℕ) → bytes_eq name key ≡ false → 0 ≡ unwrap_or (get (insert none key 0x1234) name) 0
unfolding none
unknown key name other = rw (get-insert nat_list_cmp_total none key 0x1234 name, is_eq-slice_cmp name key, other, get-empty (slice_cmp nat_cmp) name) refl

pub returns-then-eq : goal.returns-then-eq
unfolding none
returns-then-eq c = known c.args.self.now.name.now c.args.name.now (sym c.if-eq.ensures)

pub returns-else-eq : goal.returns-else-eq
unfolding none
returns-else-eq c = unknown c.args.self.now.name.now c.args.name.now (sym c.if-eq.ensures)
