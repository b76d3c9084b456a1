-- What a crash may leave of a disk.
use Rattle.std.proofs.Common.{◌≡◌, ◌≢◌, inl, inr, ◌⊎◌, ⊎_elim, ℕ, zero, suc, ◌+◌, ◌<◌, ◌≤◌, true, false, cond, List, [], ◌∷◌, ◌++◌, length, take, refl, sym, ap, ◌∙◌, subst, is_some, arith, length-append}
use Rattle.std.specs.Prelude.{Option, Some, None}
use Rattle.std.proofs.lemmas.List.{take-append-le, take_all}
use Rattle.std.specs.FinMap.{get}
use Rattle.std.proofs.lemmas.Bool.{cases_Bool, cond-true, cond-false}
use Rattle.kl_base.proofs.Bools.{true_false}
use Rattle.kl_store.specs.Names.{Names, same_name, Change, Create, Append, Rename, Remove, set, carried_out, all_carried_out}
use Rattle.kl_store.specs.Disk.{Disk, names_now, joined, Numbers, renumbered, all_renumbered, IsAppendedTo, IsImageAfter, IsImage, IsNear, IsMove, AreMoves}
use Rattle.kl_store.proofs.NameMaps.{same_refl, same_eq, same_apart, get-set, get-renamed, get-removed, get-created, get-appended, same_names, all_carried_out-append}

pub le_or_more : (a b : ℕ) → (a ≤ b) ⊎ (b < a)
le_or_more zero b = inl (omega arith)
le_or_more (suc a) zero = inr (omega arith)
le_or_more (suc a) (suc b) = ⊎_elim (λ le. inl (omega arith)) (λ more. inr (omega arith)) (le_or_more a b)

pub all_renumbered-append : (cs ds : List Change) (f : Numbers) → all_renumbered (cs ++ ds) f ≡ all_renumbered ds (all_renumbered cs f)
all_renumbered-append [] ds f = refl
all_renumbered-append (c ∷ cs) ds f = all_renumbered-append cs ds (renumbered c f)

some_none : {A : Type 0} (x : A) → ◌≡◌ {A = Option A} None (Some x) → ⊥
some_none x e = cc

-- each name of the file has the bytes that the file had
abbrev Keeps : List ℕ → Numbers → Names → Names → Type 0
Keeps file f m first = (n : List ℕ) → f n ≡ Some file → get m n ≡ get first file

kept_created : (k : List ℕ) (f : Numbers) (m first : Names) (file : List ℕ) → Keeps file f m first → Keeps file (renumbered (Create k) f) (carried_out (Create k) m) first
kept_created k f m first file keeps n e = ⊎_elim
    (λ is. absurd (some_none file (sym (cond-true (same_name n k) None (f n) is) ∙ e)))
    (λ other. get-created m k n ∙ cond-false (same_name n k) _ _ other ∙ keeps n (sym (cond-false (same_name n k) None (f n) other) ∙ e))
    (cases_Bool (same_name n k))

kept_removed : (k : List ℕ) (f : Numbers) (m first : Names) (file : List ℕ) → Keeps file f m first → Keeps file (renumbered (Remove k) f) (carried_out (Remove k) m) first
kept_removed k f m first file keeps n e = ⊎_elim
    (λ is. absurd (some_none file (sym (cond-true (same_name n k) None (f n) is) ∙ e)))
    (λ other. get-removed m k n ∙ cond-false (same_name n k) _ _ other ∙ keeps n (sym (cond-false (same_name n k) None (f n) other) ∙ e))
    (cases_Bool (same_name n k))

kept_appended : (k bytes : List ℕ) (f : Numbers) (m first : Names) (file : List ℕ) → (f k ≡ Some file → ⊥) → Keeps file f m first → Keeps file f (carried_out (Append k bytes) m) first
kept_appended k bytes f m first file never keeps n e = ⊎_elim
    (λ is. absurd (never (ap f (sym (same_eq n k is)) ∙ e)))
    (λ other. get-appended m k bytes n ∙ cond-false (same_name n k) _ _ other ∙ keeps n e)
    (cases_Bool (same_name n k))

kept_renamed : (a b : List ℕ) (f : Numbers) (m first : Names) (file : List ℕ) → Keeps file f m first → Keeps file (renumbered (Rename a b) f) (carried_out (Rename a b) m) first
kept_renamed a b f m first file keeps n e = ⊎_elim
    (λ is. get-renamed m a b n ∙ cond-true (same_name n b) _ _ is ∙ keeps a (sym (cond-true (same_name n b) (f a) _ is) ∙ e))
    (λ other. let e2 = sym (cond-false (same_name n b) (f a) (cond (same_name n a) None (f n)) other) ∙ e in
    get-renamed m a b n ∙ cond-false (same_name n b) _ _ other ∙ ⊎_elim
    (λ is. absurd (some_none file (sym (cond-true (same_name n a) None (f n) is) ∙ e2)))
    (λ nor. cond-false (same_name n a) _ _ nor ∙ keeps n (sym (cond-false (same_name n a) None (f n) nor) ∙ e2))
    (cases_Bool (same_name n a)))
    (cases_Bool (same_name n b))

-- a file that no change appends to keeps its bytes
pub kept_through : (cs : List Change) (f : Numbers) (m first : Names) (file : List ℕ) → Keeps file f m first → ¬ IsAppendedTo file cs f → Keeps file (all_renumbered cs f) (all_carried_out cs m) first
kept_through [] f m first file keeps never = keeps
kept_through (Create k ∷ cs) f m first file keeps never = kept_through cs (renumbered (Create k) f) (carried_out (Create k) m) first file (kept_created k f m first file keeps) never
kept_through (Append k bytes ∷ cs) f m first file keeps never =
    kept_through cs f (carried_out (Append k bytes) m) first file (kept_appended k bytes f m first file (λ e. never (inl e)) keeps) (λ later. never (inr later))
kept_through (Rename a b ∷ cs) f m first file keeps never = kept_through cs (renumbered (Rename a b) f) (carried_out (Rename a b) m) first file (kept_renamed a b f m first file keeps) never
kept_through (Remove k ∷ cs) f m first file keeps never = kept_through cs (renumbered (Remove k) f) (carried_out (Remove k) m) first file (kept_removed k f m first file keeps) never

same_Some : {A : Type 0} (x y : A) → ◌≡◌ {A = Option A} (Some x) (Some y) → x ≡ y
same_Some x y e = cc

pub kept_none : (m : Names) (file : List ℕ) → Keeps file Some m m
kept_none m file n e = ap (λ (q : List ℕ). get m q) (same_Some n file e)

-- the bytes now of a file that no change appends to
pub kept_now : (d : Disk) (n file : List ℕ) → all_renumbered d.changes Some n ≡ Some file → ¬ IsAppendedTo file d.changes Some → get (names_now d) n ≡ get d.stable file
kept_now d n file e never = kept_through d.changes Some d.stable d.stable file (kept_none d.stable file) never n e

-- the names now are an image
pub now_is_image : (d : Disk) → IsImage d (names_now d)
now_is_image d =
    let all : take (length d.changes) d.changes ≡ d.changes = take_all (length d.changes) d.changes (omega arith) in
    record {
      carried = length d.changes;
      image = record {
        within = omega arith;
        same_names = λ n. ap (λ (cs : List Change). is_some (get (all_carried_out cs d.stable) n)) (sym all);
        kept = λ n file e never. kept_now d n file (ap (λ (cs : List Change). all_renumbered cs Some n) (sym all) ∙ e) never;
      };
    }

no_changes : (k : ℕ) → k ≤ 0 → take {A = Change} k [] ≡ []
no_changes zero le = refl
no_changes (suc k) le = refl

-- after a settle there is no other
pub only_settled : (m x : Names) → IsImage (record { stable = m; changes = [] }) x → x ≡ m
only_settled m x i = same_names x m (λ n. i.image.kept n n (ap (λ (cs : List Change). all_renumbered cs Some n) (no_changes i.carried i.image.within)) (λ none. none))

-- an append is among the first changes or among the others
pub appended_parts : (file : List ℕ) (cs ds : List Change) (f : Numbers) → IsAppendedTo file (cs ++ ds) f → IsAppendedTo file cs f ⊎ IsAppendedTo file ds (all_renumbered cs f)
appended_parts file [] ds f h = inr h
appended_parts file (Create k ∷ cs) ds f h = appended_parts file cs ds (renumbered (Create k) f) h
appended_parts file (Append k bytes ∷ cs) ds f (inl h) = inl (inl h)
appended_parts file (Append k bytes ∷ cs) ds f (inr h) = ⊎_elim (λ p. inl (inr p)) (λ p. inr p) (appended_parts file cs ds f h)
appended_parts file (Rename a b ∷ cs) ds f h = appended_parts file cs ds (renumbered (Rename a b) f) h
appended_parts file (Remove k ∷ cs) ds f h = appended_parts file cs ds (renumbered (Remove k) f) h

-- the change appends to no file that was there at the last settle
abbrev pub IsHarmless : Disk → Change → Type 0
IsHarmless d c = (file : List ℕ) → IsAppendedTo file (c ∷ []) (all_renumbered d.changes Some) → ⊥

-- A crash after one change more leaves what one before it might, or carries out that change too.
pub joined_cases : (d : Disk) (c : Change) (x : Names) → IsHarmless d c → IsImage (joined c d) x → IsImage d x ⊎ IsImageAfter (joined c d) (length d.changes + 1) x
joined_cases d c x harmless i = ⊎_elim
    (λ early. let same : take i.carried (d.changes ++ c ∷ []) ≡ take i.carried d.changes = take-append-le i.carried d.changes (c ∷ []) early in
    inl (record {
      carried = i.carried;
      image = record {
        within = early;
        same_names = λ n. i.image.same_names n ∙ ap (λ (cs : List Change). is_some (get (all_carried_out cs d.stable) n)) same;
        kept = λ n file e never. i.image.kept n file (ap (λ (cs : List Change). all_renumbered cs Some n) same ∙ e)
            (λ h. ⊎_elim never (harmless file) (appended_parts file d.changes (c ∷ []) Some h));
      };
    }))
    (λ late. let last : i.carried ≡ length d.changes + 1 = omega (arith, i.image.within, length-append d.changes (c ∷ [])) in
    inr (subst (λ (k : ℕ). IsImageAfter (joined c d) k x) last i.image))
    (le_or_more i.carried (length d.changes))

-- the changes so far, all carried out
all_taken : (d : Disk) (c : Change) → take (length d.changes + 1) (d.changes ++ c ∷ []) ≡ d.changes ++ c ∷ []
all_taken d c = take_all (length d.changes + 1) (d.changes ++ c ∷ []) (omega (arith, length-append d.changes (c ∷ [])))

-- the change is of this name alone
pub record IsOf (name : List ℕ) (c : Change) : Type 0 where
  pub other_bytes : (m : Names) (q : List ℕ) → q ≢ name → get (carried_out c m) q ≡ get m q
  pub other_numbers : (f : Numbers) (q : List ℕ) → q ≢ name → renumbered c f q ≡ f q

pub is_of_create : (n : List ℕ) → IsOf n (Create n)
is_of_create n = record {
  other_bytes = λ m q other. get-created m n q ∙ cond-false (same_name q n) _ _ (same_apart q n other);
  other_numbers = λ f q other. cond-false (same_name q n) _ _ (same_apart q n other);
}

pub is_of_append : (n bytes : List ℕ) → IsOf n (Append n bytes)
is_of_append n bytes = record {
  other_bytes = λ m q other. get-appended m n bytes q ∙ cond-false (same_name q n) _ _ (same_apart q n other);
  other_numbers = λ f q other. refl;
}

-- with what is now under that name
put_back : (d : Disk) (n : List ℕ) (c : Change) (x : Names) → IsHarmless d c → IsOf n c → IsImageAfter (joined c d) (length d.changes + 1) x → IsNear n d x
put_back d n c x harmless of i =
    let y : Names = set x n (get (names_now d) n) in
    let here : (q : List ℕ) → same_name q n ≡ true → get y q ≡ get (names_now d) q =
    λ q is. get-set x n (get (names_now d) n) q ∙ cond-true (same_name q n) _ _ is ∙ ap (λ (p : List ℕ). get (names_now d) p) (sym (same_eq q n is)) in
    let there : (q : List ℕ) → same_name q n ≡ false → get y q ≡ get x q =
    λ q other. get-set x n (get (names_now d) n) q ∙ cond-false (same_name q n) _ _ other in
    let away : (q : List ℕ) → same_name q n ≡ false → q ≢ n =
    λ q other e. true_false (sym (ap (λ (p : List ℕ). same_name p n) e ∙ same_refl n) ∙ other) in
    let all : take (length d.changes) d.changes ≡ d.changes = take_all (length d.changes) d.changes (omega arith) in
    record {
      near = y;
      image = record {
        carried = length d.changes;
        image = record {
          within = omega arith;
          same_names = λ q. ⊎_elim
              (λ is. ap is_some (here q is))
              (λ other. ap is_some (there q other) ∙ i.same_names q ∙ ap (λ (cs : List Change). is_some (get (all_carried_out cs d.stable) q)) (all_taken d c)
              ∙ ap (λ (m : Names). is_some (get m q)) (all_carried_out-append d.changes (c ∷ []) d.stable) ∙ ap is_some (of.other_bytes (names_now d) q (away q other)))
              (cases_Bool (same_name q n)) ∙ ap (λ (cs : List Change). is_some (get (all_carried_out cs d.stable) q)) (sym all);
          kept = λ q file e never.
              let now : all_renumbered d.changes Some q ≡ Some file = ap (λ (cs : List Change). all_renumbered cs Some q) (sym all) ∙ e in
              ⊎_elim
              (λ is. here q is ∙ kept_now d q file now never)
              (λ other. there q other ∙ i.kept q file
              (ap (λ (cs : List Change). all_renumbered cs Some q) (all_taken d c) ∙ ap (λ (g : Numbers). g q) (all_renumbered-append d.changes (c ∷ []) Some) ∙ of.other_numbers _ q (away q other) ∙ now)
              (λ h. ⊎_elim never (harmless file) (appended_parts file d.changes (c ∷ []) Some h)))
              (cases_Bool (same_name q n));
        };
      };
      others = λ q other. sym (there q (same_apart q n other));
    }

pub near_joined : (d : Disk) (n : List ℕ) (c : Change) (x : Names) → IsHarmless d c → IsOf n c → IsImage (joined c d) x → IsNear n d x
near_joined d n c x harmless of i = ⊎_elim
    (λ before. record { near = x; image = before; others = λ q other. refl })
    (λ after. put_back d n c x harmless of after)
    (joined_cases d c x harmless i)

pub moves_append : (cs : List Change) (c : Change) → AreMoves cs → IsMove c → AreMoves (cs ++ c ∷ [])
moves_append [] c h m = (m, tt)
moves_append (d ∷ cs) c h m = (h.0, moves_append cs c h.1 m)

moves_take : (k : ℕ) (cs : List Change) → AreMoves cs → AreMoves (take k cs)
moves_take zero cs h = tt
moves_take (suc k) [] h = tt
moves_take (suc k) (c ∷ cs) h = (h.0, moves_take k cs h.1)

-- moves append to no file
moves_harmless : (cs : List Change) (f : Numbers) (file : List ℕ) → AreMoves cs → ¬ IsAppendedTo file cs f
moves_harmless [] f file h p = p
moves_harmless (Create k ∷ cs) f file h p = absurd h.0
moves_harmless (Append k bytes ∷ cs) f file h p = absurd h.0
moves_harmless (Rename a b ∷ cs) f file h p = moves_harmless cs (renumbered (Rename a b) f) file h.1 p
moves_harmless (Remove k ∷ cs) f file h p = moves_harmless cs (renumbered (Remove k) f) file h.1 p

-- and each name that holds a file has one that was there at the last settle
numbered : (cs : List Change) (f : Numbers) (m : Names) → AreMoves cs → ((n : List ℕ) → f n ≡ None → get m n ≡ None)
    → (n : List ℕ) → all_renumbered cs f n ≡ None → get (all_carried_out cs m) n ≡ None
numbered [] f m h so = so
numbered (Create k ∷ cs) f m h so = absurd h.0
numbered (Append k bytes ∷ cs) f m h so = absurd h.0
numbered (Rename a b ∷ cs) f m h so = numbered cs (renumbered (Rename a b) f) (carried_out (Rename a b) m) h.1 (λ n e. get-renamed m a b n ∙ ⊎_elim
    (λ is. cond-true (same_name n b) _ _ is ∙ so a (sym (cond-true (same_name n b) (f a) _ is) ∙ e))
    (λ other. cond-false (same_name n b) _ _ other ∙ ⊎_elim
    (λ is. cond-true (same_name n a) _ _ is)
    (λ nor. cond-false (same_name n a) _ _ nor ∙ so n (sym (cond-false (same_name n a) None (f n) nor) ∙ sym (cond-false (same_name n b) (f a) (cond (same_name n a) None (f n)) other) ∙ e))
    (cases_Bool (same_name n a)))
    (cases_Bool (same_name n b)))
numbered (Remove k ∷ cs) f m h so = numbered cs (renumbered (Remove k) f) (carried_out (Remove k) m) h.1 (λ n e. get-removed m k n ∙ ⊎_elim
    (λ is. cond-true (same_name n k) _ _ is)
    (λ other. cond-false (same_name n k) _ _ other ∙ so n (sym (cond-false (same_name n k) None (f n) other) ∙ e))
    (cases_Bool (same_name n k)))

no_some : (o : Option (List ℕ)) → is_some o ≡ false → o ≡ None
no_some None e = refl
no_some (Some x) e = true_false e

pub some_or : (o : Option (List ℕ)) → ((x : List ℕ) × (o ≡ Some x)) ⊎ (o ≡ None)
some_or None = inr refl
some_or (Some x) = inl (x, refl)

-- Where all changes are moves, a crash leaves the names after the first of them.
pub image_of_moves : (d : Disk) (k : ℕ) (x : Names) → AreMoves d.changes → IsImageAfter d k x → x ≡ all_carried_out (take k d.changes) d.stable
image_of_moves d k x moves i = same_names x (all_carried_out (take k d.changes) d.stable) (λ n. ⊎_elim
    (λ some. i.kept n some.0 some.1 (moves_harmless d.changes Some some.0 moves)
    ∙ sym (kept_through (take k d.changes) Some d.stable d.stable some.0 (kept_none d.stable some.0) (moves_harmless (take k d.changes) Some some.0 (moves_take k d.changes moves)) n some.1))
    (λ none. let gone : get (all_carried_out (take k d.changes) d.stable) n ≡ None = numbered (take k d.changes) Some d.stable (moves_take k d.changes moves) (λ q e. absurd (some_none q (sym e))) n none in
    no_some (get x n) (i.same_names n ∙ ap is_some gone) ∙ sym gone)
    (some_or (all_renumbered (take k d.changes) Some n)))

-- One move more: a crash leaves what it might before, or all moves carried out.
pub joined_move : (d : Disk) (c : Change) (x : Names) → AreMoves d.changes → IsMove c → IsImage (joined c d) x → IsImage d x ⊎ (x ≡ carried_out c (names_now d))
joined_move d c x moves is_move i = ⊎_elim
    (λ before. inl before)
    (λ after. inr (image_of_moves (joined c d) (length d.changes + 1) x (moves_append d.changes c moves is_move) after
    ∙ ap (λ (cs : List Change). all_carried_out cs d.stable) (all_taken d c) ∙ all_carried_out-append d.changes (c ∷ []) d.stable))
    (joined_cases d c x (λ file h. moves_harmless (c ∷ []) (all_renumbered d.changes Some) file (is_move, tt) h) i)

pub near_created : (d : Disk) (n : List ℕ) (x : Names) → IsImage (joined (Create n) d) x → IsNear n d x
near_created d n x i = near_joined d n (Create n) x (λ file h. h) (is_of_create n) i

created_number : (d : Disk) (n : List ℕ) → all_renumbered (d.changes ++ Create n ∷ []) Some n ≡ None
created_number d n = ap (λ (g : Numbers). g n) (all_renumbered-append d.changes (Create n ∷ []) Some) ∙ cond-true (same_name n n) _ _ (same_refl n)

-- bytes that are added to a file made since the last settle change nothing but that file
pub near_appended : (d : Disk) (n bytes : List ℕ) (x : Names) → all_renumbered d.changes Some n ≡ None → IsImage (joined (Append n bytes) d) x → IsNear n d x
near_appended d n bytes x none i =
    near_joined d n (Append n bytes) x (λ file h. ⊎_elim (λ e. some_none file (sym none ∙ e)) (λ never. never) h) (is_of_append n bytes) i

pub near_written : (d : Disk) (n bytes : List ℕ) (x : Names) → IsImage (joined (Append n bytes) (joined (Create n) d)) x → IsNear n d x
near_written d n bytes x i =
    let late = near_appended (joined (Create n) d) n bytes x (created_number d n) i in
    let early = near_created d n late.near late.image in
    record { near = early.near; image = early.image; others = λ q other. late.others q other ∙ early.others q other }

-- the names with a change more
pub names_now-joined : (d : Disk) (c : Change) → names_now (joined c d) ≡ carried_out c (names_now d)
names_now-joined d c = all_carried_out-append d.changes (c ∷ []) d.stable
