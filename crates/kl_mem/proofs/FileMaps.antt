-- What a map of files holds.
use Rattle.std.proofs.Common.{◌≡◌, ℕ, Bool, true, false, cond, List, [], ◌∷◌, refl, sym, ap, ◌∙◌}
use Rattle.std.specs.Prelude.{Option, Some, None, option_map, is_some, OnSome, Vec}
use Rattle.std.specs.declared.alloc.Global.{Global}
use Rattle.std.specs.Map.{lookup}
use Rattle.std.specs.BTreeMap as tree
use Rattle.std.specs.BTreeMap.{BTreeMap, is_at}
use Rattle.std.specs.Ordering.{nat_cmp}
use Rattle.std.specs.Cmp.{eq_by_cmp_equiv}
use Rattle.std.specs.Cmp.Lexicographic.{slice_cmp}
use Rattle.std.proofs.lemmas.Cmp.{nat_list_cmp_total}
use Rattle.std.specs.FinMap.{get, get-empty}
use Rattle.kl_store.specs.Names.{Names, same_name, set}
use Rattle.kl_mem.specs.FileMap.{names_in, items_of}
use Rattle.kl_store.proofs.NameMaps.{same_names, get-set, get-inserted}

through : (b : Bool) (v : Vec ℕ Global) (o : Option (Vec ℕ Global)) → cond b (Some v.items) (option_map items_of o) ≡ option_map items_of (cond b (Some v) o)
through true v o = refl
through false v o = refl

pub names_in-get : (es : List (List ℕ × Vec ℕ Global)) (q : List ℕ) → get (names_in es) q ≡ option_map items_of (lookup (is_at (slice_cmp nat_cmp q)) es)
names_in-get [] q = get-empty (slice_cmp nat_cmp) q
names_in-get (e ∷ es) q = get-inserted (names_in es) e.0 e.1.items q ∙ ap (λ (o : Option (List ℕ)). cond (same_name q e.0) (Some e.1.items) o) (names_in-get es q) ∙ through (same_name q e.0) e.1 _

items_cond : (b : Bool) (w o : Option (Vec ℕ Global)) → option_map items_of (cond b w o) ≡ cond b (option_map items_of w) (option_map items_of o)
items_cond true w o = refl
items_cond false w o = refl

-- one name changes
pub updated : (m n : BTreeMap (List ℕ) (Vec ℕ Global)) (k : List ℕ) (w : Option (Vec ℕ Global)) → ((q : List ℕ) → tree.get (slice_cmp nat_cmp) n q ≡ cond (is_at (slice_cmp nat_cmp k) q) w (tree.get (slice_cmp nat_cmp) m q))
    → names_in n.entries ≡ set (names_in m.entries) k (option_map items_of w)
updated m n k w changes = same_names _ _ (λ q.
    names_in-get n.entries q ∙ ap (option_map items_of) (changes q) ∙ items_cond (same_name k q) w _
    ∙ ap (λ b. cond b (option_map items_of w) (option_map items_of (tree.get (slice_cmp nat_cmp) m q))) ((eq_by_cmp_equiv nat_list_cmp_total).symm k q)
    ∙ ap (λ (o : Option (List ℕ)). cond (same_name q k) (option_map items_of w) o) (sym (names_in-get m.entries q))
    ∙ sym (get-set (names_in m.entries) k (option_map items_of w) q))

pub same_some : (o : Option (Vec ℕ Global)) → is_some (option_map items_of o) ≡ is_some o
same_some None = refl
same_some (Some v) = refl

-- a file that is there is replaced
pub is_replaced : (held : Option (Vec ℕ Global)) (m n with : Names) (k v : List ℕ) → get m k ≡ option_map items_of held → get m k ≡ Some v → OnSome held (n ≡ with) → n ≡ with
is_replaced (Some file) m n with k v is there then = then
is_replaced None m n with k v is there then = let no : ◌≡◌ {A = Option (List ℕ)} None (Some v) = sym is ∙ there in cc
