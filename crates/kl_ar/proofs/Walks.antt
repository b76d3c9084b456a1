-- From header to header.
use Rattle.std.proofs.Common.{◌≡◌, ℕ, zero, suc, ◌+◌, ◌-◌, ◌*◌, ◌/◌, ◌^◌, ◌<◌, ◌≤◌, Bool, true, false, cond, List, [], ◌∷◌, ◌++◌, length, refl, sym, ap, subst, ◌∙◌, arith, Option, append_assoc}
use Rattle.std.specs.List.{starts_with}
use Rattle.std.specs.Option.{option_map}
use Rattle.std.specs.Prelude.{All, IfSome, drop, nat_eq, Result, Ok, Err, Some, None, flat_map, nat_le, option_to_list, slice_get}
use Rattle.std.specs.Result.{IfErr, IsErrAnd}
use Rattle.std.proofs.lemmas.Bool.Decides.{nat_tests}
use Rattle.std.proofs.lemmas.List.{append-nil, length-drop}
use Rattle.std.proofs.lemmas.List.Elements.{All-push, All-same}
use Rattle.kl_ar.specs.Archives.{IsFirst, Placed, data_at, faults, faults_at, form_at, header_faults, headers, headers_from, magic_faults, members_at, members_of, name_faults, name_in, name_len, next_at, range_from, placed, size_at, table_by}
use Rattle.kl_ar.specs.Fields.{is_empty}
use Rattle.kl_ar.proofs.Ends.{ends_below}
use Rattle.kl_ar.specs.Readers.{HasTable, IsHeader, IsTable, placed_at, table_place}
use Rattle.kl_ar.specs.declared.fault.ArError.{ArError}
use Rattle.kl_ar.specs.declared.fault.ArError.TheVariants as error
use Rattle.kl_ar.specs.declared.fault.ArFault.{ArFault}
use Rattle.kl_ar.specs.declared.format.TheConstants.{LONG_NAME_END}
use Rattle.kl_ar.specs.declared.header.Header.{Header}
use Rattle.kl_ar.specs.declared.name.NameForm.{NameForm}
use Rattle.kl_ar.specs.declared.long_names.LongNames.{LongNames}
use Rattle.kl_ar.specs.declared.member.Member.{Member}

pub le_true : (m n : ℕ) → m ≤ n → nat_le m n ≡ true
le_true m n h = grind (arith, nat_tests)

pub le_false : (m n : ℕ) → n < m → nat_le m n ≡ false
le_false m n h = grind (arith, nat_tests)

-- the next header stands behind this one
pub next_behind : (b : List ℕ) (at : ℕ) → at + 60 ≤ next_at b at
next_behind b at = go (at + 60 + size_at b at) (omega arith)
  where
    go : (n : ℕ) → at + 60 ≤ n → at + 60 ≤ (n + 1) / 2 * 2
    go n h = omega arith

-- how many headers there may be at most doesn't matter where there is room for all
pub past_none : (b : List ℕ) (n at : ℕ) → length b ≤ at → headers_from b n at ≡ []
past_none b zero at h = refl
past_none b (suc n) at h = rw (le_true (length b) at h) refl

pub enough : (b : List ℕ) (n k at : ℕ) → length b ≤ at + n → length b ≤ at + k → headers_from b n at ≡ headers_from b k at
enough b zero k at room other = sym (past_none b k at (omega arith))
enough b (suc n) zero at room other = past_none b (suc n) at (omega arith)
enough b (suc n) (suc k) at room other =
    let next = next_behind b at in
    ap (λ (xs : List ℕ). cond (nat_le (length b) at) [] (at ∷ cond (is_empty (header_faults b at)) xs []))
    (enough b n k (next_at b at) (omega arith) (omega arith))

-- the headers from a place on, with the last table of long names before it
abbrev pub rest_of : List ℕ → Option ℕ → ℕ → List Placed
rest_of b table at = placed b table (headers_from b (length b - at) at)

abbrev here : ℕ → Option ℕ → Placed
here at table = record { at = at; table = table }

pub rest_at : (b : List ℕ) (table : Option ℕ) (at : ℕ) → at < length b
    → rest_of b table at ≡ here at table ∷ placed b (table_by (form_at b at) at table) (cond (is_empty (header_faults b at)) (headers_from b (length b - next_at b at) (next_at b at)) [])
rest_at b table at h =
    ap (placed b table) (go (length b - at) refl)
  where
    go : (n : ℕ) → length b - at ≡ n → headers_from b n at ≡ at ∷ cond (is_empty (header_faults b at)) (headers_from b (length b - next_at b at) (next_at b at)) []
    go zero e = absurd (omega arith)
    go (suc n) e =
        let next = next_behind b at in
        rw (le_false (length b) at h)
        (ap (λ (xs : List ℕ). at ∷ cond (is_empty (header_faults b at)) xs []) (enough b n (length b - next_at b at) (next_at b at) (omega arith) (omega arith)))

pub rest_more : (b : List ℕ) (table : Option ℕ) (at : ℕ) → at < length b → header_faults b at ≡ []
    → rest_of b table at ≡ here at table ∷ rest_of b (table_by (form_at b at) at table) (next_at b at)
rest_more b table at h sound =
    rest_at b table at h
    ∙ ap (λ (xs : List ArFault). here at table ∷ placed b (table_by (form_at b at) at table) (cond (is_empty xs) (headers_from b (length b - next_at b at) (next_at b at)) [])) sound

pub rest_none : (b : List ℕ) (table : Option ℕ) (at : ℕ) → length b ≤ at → rest_of b table at ≡ []
rest_none b table at h = ap (placed b table) (past_none b (length b - at) at h)

-- at the beginning
pub all_headers : (b : List ℕ) → headers_from b (length b - 8) 8 ≡ headers b
unfolding headers
all_headers b = enough b (length b - 8) (length b) 8 (omega arith) (omega arith)

-- the ends of a table's names in the file
pub within_file : (b : List ℕ) (names : LongNames) → IsTable b names → length b < 2 ^ 63 → All (λ end. names.at + 60 + end < 2 ^ 64) names.ends
within_file b names is small = λ k d h.
    (let inside : All (λ e. e < length (data_at b names.at)) names.ends = subst (All (λ e. e < length (data_at b names.at))) (sym is.ends) (ends_below (data_at b names.at)) in
    omega (arith, inside k d h, is.within))

-- the first of several faults
head_left : (xs ys : List ArFault) (f : ArFault) → slice_get xs 0 ≡ Some f → slice_get (xs ++ ys) 0 ≡ Some f
head_left [] ys f e = cc
head_left (x ∷ xs) ys f e = e

head_right : (xs ys : List ArFault) (f : ArFault) → xs ≡ [] → slice_get ys 0 ≡ Some f → slice_get (xs ++ ys) 0 ≡ Some f
head_right xs ys f none e = rw none e

pub no_faults : (xs : List ArFault) → None ≡ slice_get xs 0 → xs ≡ []
no_faults [] e = refl
no_faults (x ∷ xs) e = cc

-- that of the beginning is the archive's
pub magic_first : (b : List ℕ) (f : ArFault) → Some f ≡ slice_get (magic_faults b) 0 → slice_get (faults b) 0 ≡ Some f
unfolding faults
magic_first b f e = head_left (magic_faults b) (flat_map (faults_at b) (placed b None (headers b))) f (sym e)

-- that of a header, where those before have none
header_first : (b : List ℕ) (table : Option ℕ) (at : ℕ) (f : ArFault) → at < length b → slice_get (faults_at b (here at table)) 0 ≡ Some f
    → slice_get (flat_map (faults_at b) (rest_of b table at)) 0 ≡ Some f
header_first b table at f h e =
    ap (λ (xs : List Placed). slice_get (flat_map (faults_at b) xs) 0) (rest_at b table at h)
    ∙ head_left (faults_at b (here at table)) _ f e

pub form_first : (b : List ℕ) (table : Option ℕ) (at : ℕ) (f : ArFault) → at < length b → flat_map (faults_at b) (rest_of b table at) ≡ faults b
    → Some f ≡ slice_get (header_faults b at) 0 → slice_get (faults b) 0 ≡ Some f
form_first b table at f h so_far e =
    ap (λ (xs : List ArFault). slice_get xs 0) (sym so_far)
    ∙ header_first b table at f h (head_left (header_faults b at) (name_faults b (here at table)) f (sym e))

pub name_first : (b : List ℕ) (table : Option ℕ) (at : ℕ) (f : ArFault) → at < length b → flat_map (faults_at b) (rest_of b table at) ≡ faults b
    → header_faults b at ≡ [] → Some f ≡ slice_get (name_faults b (here at table)) 0 → slice_get (faults b) 0 ≡ Some f
name_first b table at f h so_far sound e =
    ap (λ (xs : List ArFault). slice_get xs 0) (sym so_far)
    ∙ header_first b table at f h (head_right (header_faults b at) (name_faults b (here at table)) f sound (sym e))

-- behind a header without a fault
pub faults_more : (b : List ℕ) (table : Option ℕ) (at : ℕ) → at < length b → flat_map (faults_at b) (rest_of b table at) ≡ faults b
    → header_faults b at ≡ [] → None ≡ slice_get (name_faults b (here at table)) 0
    → flat_map (faults_at b) (rest_of b (table_by (form_at b at) at table) (next_at b at)) ≡ faults b
faults_more b table at h so_far sound named =
    let rest = flat_map (faults_at b) (rest_of b (table_by (form_at b at) at table) (next_at b at)) in
    let none : rest ≡ faults_at b (here at table) ++ rest = rw (sound, no_faults (name_faults b (here at table)) named) refl in
    none ∙ (sym (ap (flat_map (faults_at b)) (rest_more b table at h sound)) ∙ so_far)

pub members_more : (b : List ℕ) (table : Option ℕ) (at : ℕ) (members one : List Member) → at < length b
    → members ++ flat_map (members_at b) (rest_of b table at) ≡ members_of b → header_faults b at ≡ [] → one ≡ members_at b (here at table)
    → members ++ one ++ flat_map (members_at b) (rest_of b (table_by (form_at b at) at table) (next_at b at)) ≡ members_of b
members_more b table at members one h so_far sound is =
    let rest = flat_map (members_at b) (rest_of b (table_by (form_at b at) at table) (next_at b at)) in
    append_assoc members one rest
    ∙ (ap (λ (xs : List Member). members ++ (xs ++ rest)) is
    ∙ (ap (λ (xs : List Placed). members ++ flat_map (members_at b) xs) (sym (rest_more b table at h sound)) ∙ so_far))

-- at the beginning and at the end
pub members_start : (b : List ℕ) → flat_map (members_at b) (rest_of b None 8) ≡ members_of b
unfolding members_of
members_start b = ap (λ (hs : List ℕ). flat_map (members_at b) (placed b None hs)) (all_headers b)

pub faults_start : (b : List ℕ) → None ≡ slice_get (magic_faults b) 0 → flat_map (faults_at b) (rest_of b None 8) ≡ faults b
unfolding faults
faults_start b none =
    ap (λ (hs : List ℕ). flat_map (faults_at b) (placed b None hs)) (all_headers b)
    ∙ sym (ap (λ (xs : List ArFault). xs ++ flat_map (faults_at b) (placed b None (headers b))) (no_faults (magic_faults b) none))

pub members_end : (b : List ℕ) (table : Option ℕ) (at : ℕ) (members : List Member) → length b ≤ at
    → members ++ flat_map (members_at b) (rest_of b table at) ≡ members_of b → members ≡ members_of b
members_end b table at members h so_far =
    sym (append-nil members) ∙ (ap (λ (xs : List Placed). members ++ flat_map (members_at b) xs) (sym (rest_none b table at h)) ∙ so_far)

pub faults_end : (b : List ℕ) (table : Option ℕ) (at : ℕ) → length b ≤ at → flat_map (faults_at b) (rest_of b table at) ≡ faults b → faults b ≡ []
faults_end b table at h so_far = sym so_far ∙ ap (flat_map (faults_at b)) (rest_none b table at h)

-- an error that is handed on
pub handed_on : {T : Type 0} (fs : List ArFault) (f : ArFault) (result : Result T ArError) → IsErrAnd result (λ e. e ≡ error.Flaw f) → slice_get fs 0 ≡ Some f → IfErr result (IsFirst fs)
handed_on fs f (Ok x) is first = tt
handed_on fs f (Err e) is first = subst (IsFirst fs) (sym is) first

-- behind a header, its member and its table are put to those before
pub faults_behind : (b : List ℕ) (header : Header) (table behind : Option LongNames) (at next : ℕ) → at < length b → header.at ≡ at → IsHeader b header
    → flat_map (faults_at b) (rest_of b (table_place table) at) ≡ faults b → header_faults b at ≡ [] → None ≡ slice_get (name_faults b (placed_at header table)) 0
    → table_place behind ≡ table_by header.form header.at (table_place table) → next ≡ next_at b header.at
    → flat_map (faults_at b) (rest_of b (table_place behind) next) ≡ faults b
faults_behind b header table behind at next h place is so_far sound named by_form by_size =
    let t = table_place table in
    let known : None ≡ slice_get (name_faults b (here at t)) 0 = subst (λ (x : ℕ). None ≡ slice_get (name_faults b (here x t)) 0) place named in
    let by : table_place behind ≡ table_by (form_at b at) at t = by_form ∙ (ap (λ (f : NameForm). table_by f header.at t) is.form ∙ ap (λ (x : ℕ). table_by (form_at b x) x t) place) in
    let to : next ≡ next_at b at = by_size ∙ ap (next_at b) place in
    ap (λ (x : Option ℕ). flat_map (faults_at b) (rest_of b x next)) by
    ∙ (ap (λ (x : ℕ). flat_map (faults_at b) (rest_of b (table_by (form_at b at) at t) x)) to
    ∙ faults_more b t at h so_far sound known)

pub members_behind : (b : List ℕ) (header : Header) (table behind : Option LongNames) (at next : ℕ) (before after one : List Member) → at < length b → header.at ≡ at → IsHeader b header
    → before ++ flat_map (members_at b) (rest_of b (table_place table) at) ≡ members_of b → header_faults b at ≡ [] → one ≡ members_at b (placed_at header table)
    → table_place behind ≡ table_by header.form header.at (table_place table) → next ≡ next_at b header.at → after ≡ before ++ one
    → after ++ flat_map (members_at b) (rest_of b (table_place behind) next) ≡ members_of b
members_behind b header table behind at next before after one h place is so_far sound made by_form by_size added =
    let t = table_place table in
    let known : one ≡ members_at b (here at t) = subst (λ (x : ℕ). one ≡ members_at b (here x t)) place made in
    let by : table_place behind ≡ table_by (form_at b at) at t = by_form ∙ (ap (λ (f : NameForm). table_by f header.at t) is.form ∙ ap (λ (x : ℕ). table_by (form_at b x) x t) place) in
    let to : next ≡ next_at b at = by_size ∙ ap (next_at b) place in
    ap (λ (x : List Member). x ++ flat_map (members_at b) (rest_of b (table_place behind) next)) added
    ∙ (ap (λ (x : Option ℕ). before ++ one ++ flat_map (members_at b) (rest_of b x next)) by
    ∙ (ap (λ (x : ℕ). before ++ one ++ flat_map (members_at b) (rest_of b (table_by (form_at b at) at t) x)) to
    ∙ members_more b t at before one h so_far sound known))

-- a long name stands in the file
begins_one : (o : Option ℕ) (n : ℕ) (b : Bool) → IfSome o (λ len. len < n) → IfSome (cond b (Some 0) (option_map (λ len. suc len) o)) (λ len. len < suc n)
begins_one o n true short = omega arith
begins_one None n false short = tt
begins_one (Some len) n false short = omega (arith, short)

name_len_short : (t : List ℕ) → IfSome (name_len t) (λ len. len < length t)
name_len_short [] = tt
name_len_short (c ∷ t) = begins_one (name_len t) (length t) (starts_with nat_eq (c ∷ t) LONG_NAME_END) (name_len_short t)

range_within : (start place size : ℕ) (t : List ℕ) (o : Option ℕ) → IfSome o (λ len. len < length (drop place t)) → start + length t ≤ size
    → IfSome (range_from (start + place) o) (λ name. name.at + name.len ≤ size)
range_within start place size t None short room = tt
range_within start place size t (Some len) short room = omega (arith, short, room, length-drop place t)

pub named_within : (b : List ℕ) (table : Option LongNames) (place : ℕ) → HasTable b table → IfSome (name_in b (table_place table) place) (λ name. name.at + name.len ≤ length b)
named_within b None place has = tt
named_within b (Some names) place has =
    let t = data_at b names.at in
    range_within (names.at + 60) place (length b) t (name_len (drop place t)) (name_len_short (drop place t)) has.within

-- a member more
pub all_added : (P : Member → Type 0) (before after : List Member) (one : Option Member) → after ≡ before ++ option_to_list one → All P before → IfSome one P → All P after
all_added P before after None is all here = All-same P after before (is ∙ append-nil before) all
all_added P before after (Some m) is all here = All-same P after (before ++ m ∷ []) is (All-push P before m all here)
