-- What each change does to the names, name by name.
use Rattle.std.proofs.Common.{◌≡◌, ◌≢◌, ℕ, true, false, cond, List, [], ◌∷◌, ◌++◌, refl, sym, ap, ◌∙◌, ⊎_elim, unwrap_or}
use Rattle.std.specs.Prelude.{Option, Some, None, Bool, is_some, IsSome, MatchBool}
use Rattle.std.specs.Cmp.{eq_by_cmp_equiv}
use Rattle.std.proofs.lemmas.Cmp.{nat_list_cmp_total}
use Rattle.std.proofs.lemmas.Map.Text.{is_eq-slice_cmp}
use Rattle.std.proofs.lemmas.Slice.Eq.{bytes_eq-Decides}
use Rattle.std.specs.FinMap.{get, insert, remove, get-insert, get-remove, same_map, nat_cmp-IsAntisymmetric, slice_cmp-IsAntisymmetric}
use Rattle.std.proofs.lemmas.Bool.{cases_Bool, cond-true, cond-false}
use Rattle.kl_store.specs.Names.{Names, same_name, Change, Create, Append, Rename, Remove, set, carried_out, all_carried_out}

pub same_refl : (n : List ℕ) → same_name n n ≡ true
same_refl n = (eq_by_cmp_equiv nat_list_cmp_total).refl n

pub same_eq : (a b : List ℕ) → same_name a b ≡ true → a ≡ b
same_eq a b e = (bytes_eq-Decides a b).0 (sym (is_eq-slice_cmp a b) ∙ e)

pub same_apart : (a b : List ℕ) → a ≢ b → same_name a b ≡ false
same_apart a b apart = elim (same_name a b) as (λ v. same_name a b ≡ v → v ≡ false) [ true ↦ λ e. absurd (apart (same_eq a b e)) | false ↦ λ e. refl ] refl

pub get-inserted : (m : Names) (n bytes q : List ℕ) → get (insert m n bytes) q ≡ cond (same_name q n) (Some bytes) (get m q)
get-inserted m n bytes q = get-insert nat_list_cmp_total m n bytes q

pub get-set : (m : Names) (n : List ℕ) (o : Option (List ℕ)) (q : List ℕ) → get (set m n o) q ≡ cond (same_name q n) o (get m q)
get-set m n None q = get-remove nat_list_cmp_total m n q
get-set m n (Some bytes) q = get-insert nat_list_cmp_total m n bytes q

pub get-renamed : (m : Names) (a b q : List ℕ) → get (carried_out (Rename a b) m) q ≡ cond (same_name q b) (get m a) (cond (same_name q a) None (get m q))
get-renamed m a b q = get-set (remove m a) b (get m a) q ∙ ap (λ o. cond (same_name q b) (get m a) o) (get-remove nat_list_cmp_total m a q)

pub get-removed : (m : Names) (n q : List ℕ) → get (carried_out (Remove n) m) q ≡ cond (same_name q n) None (get m q)
get-removed m n q = get-remove nat_list_cmp_total m n q

pub get-created : (m : Names) (n q : List ℕ) → get (carried_out (Create n) m) q ≡ cond (same_name q n) (Some []) (get m q)
get-created m n q = get-insert nat_list_cmp_total m n [] q

pub get-appended : (m : Names) (n bytes q : List ℕ) → get (carried_out (Append n bytes) m) q ≡ cond (same_name q n) (Some (unwrap_or (get m n) [] ++ bytes)) (get m q)
get-appended m n bytes q = get-insert nat_list_cmp_total m n _ q

-- names that answer alike are the same
pub same_names : (m n : Names) → ((q : List ℕ) → get m q ≡ get n q) → m ≡ n
same_names m n same = same_map nat_list_cmp_total (slice_cmp-IsAntisymmetric nat_cmp-IsAntisymmetric) m n same

pub all_carried_out-append : (cs ds : List Change) (m : Names) → all_carried_out (cs ++ ds) m ≡ all_carried_out ds (all_carried_out cs m)
all_carried_out-append [] ds m = refl
all_carried_out-append (c ∷ cs) ds m = all_carried_out-append cs ds (carried_out c m)

-- what stands there already
pub insert_same : (m : Names) (k v : List ℕ) → get m k ≡ Some v → insert m k v ≡ m
insert_same m k v is = same_names _ _ (λ q. get-inserted m k v q ∙ ⊎_elim
    (λ here. cond-true (same_name q k) _ _ here ∙ sym is ∙ ap (λ (p : List ℕ). get m p) (sym (same_eq q k here)))
    (λ other. cond-false (same_name q k) _ _ other)
    (cases_Bool (same_name q k)))

-- whether a name is there, as a fact for each answer
pub by_presence : (b : Bool) (o : Option (List ℕ)) → b ≡ is_some o → MatchBool b (IsSome o) (o ≡ None)
by_presence true (Some v) e = refl
by_presence true None e = cc
by_presence false (Some v) e = cc
by_presence false None e = refl

no_some : (o : Option (List ℕ)) → is_some o ≡ false → o ≡ None
no_some None e = refl
no_some (Some v) e = cc

-- a name that is absent
pub remove_absent : (m : Names) (k : List ℕ) → is_some (get m k) ≡ false → remove m k ≡ m
remove_absent m k absent = same_names _ _ (λ q. get-removed m k q ∙ ⊎_elim
    (λ here. cond-true (same_name q k) _ _ here ∙ sym (no_some (get m k) absent) ∙ ap (λ (p : List ℕ). get m p) (sym (same_eq q k here)))
    (λ other. cond-false (same_name q k) _ _ other)
    (cases_Bool (same_name q k)))

-- of two files put under one name the later stands
pub insert_again : (m : Names) (k v w : List ℕ) → insert (insert m k v) k w ≡ insert m k w
insert_again m k v w = same_names _ _ (λ q. get-inserted (insert m k v) k w q ∙ ap (λ o. cond (same_name q k) (Some w) o) (get-inserted m k v q) ∙ ⊎_elim
    (λ here. cond-true (same_name q k) _ _ here ∙ sym (cond-true (same_name q k) (Some w) (get m q) here))
    (λ other. cond-false (same_name q k) _ _ other ∙ cond-false (same_name q k) _ _ other ∙ sym (cond-false (same_name q k) (Some w) (get m q) other))
    (cases_Bool (same_name q k)) ∙ sym (get-inserted m k w q))

-- a rename, made in steps that leave the file's bytes in no two places
pub renamed_by_steps : (m : Names) (a b v : List ℕ) → a ≢ b → get m a ≡ Some v → remove (insert (insert m a []) b v) a ≡ carried_out (Rename a b) m
renamed_by_steps m a b v apart is = same_names _ _ (λ q.
    get-removed (insert (insert m a []) b v) a q ∙ ap (λ o. cond (same_name q a) None o) (get-inserted (insert m a []) b v q ∙ ap (λ o. cond (same_name q b) (Some v) o) (get-inserted m a [] q))
    ∙ ⊎_elim
    (λ from. cond-true (same_name q a) _ _ from ∙ sym (cond-false (same_name q b) (get m a) _ (same_apart q b (λ to. apart (sym (same_eq q a from) ∙ to))) ∙ cond-true (same_name q a) _ _ from))
    (λ other. cond-false (same_name q a) _ _ other ∙ ap (λ o. cond (same_name q b) (Some v) o) (cond-false (same_name q a) (Some []) (get m q) other)
    ∙ ap (λ o. cond (same_name q b) o (get m q)) (sym is) ∙ ap (λ o. cond (same_name q b) (get m a) o) (sym (cond-false (same_name q a) None (get m q) other)))
    (cases_Bool (same_name q a))
    ∙ sym (get-renamed m a b q))

-- a file that was just put there
pub get-here : (m : Names) (n bytes : List ℕ) → get (insert m n bytes) n ≡ Some bytes
get-here m n bytes = get-inserted m n bytes n ∙ cond-true (same_name n n) _ _ (same_refl n)
