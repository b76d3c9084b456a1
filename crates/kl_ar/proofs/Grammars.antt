-- What is read without a fault is an archive as it is written.
use Rattle.std.proofs.Common.{◌≡◌, ℕ, zero, suc, ◌+◌, ◌-◌, ◌*◌, ◌/◌, ◌%◌, ◌<◌, ◌≤◌, Bool, true, false, cond, not, List, [], ◌∷◌, ◌++◌, length, take, drop, refl, sym, ap, subst, ◌∙◌, arith, Option, append_assoc, take-append-drop}
use Rattle.std.specs.Result.{IfErr}
use Rattle.std.specs.Prelude.{Result, Ok, Err, OnOk, Some, None, flat_map, is_none, nat_eq, nat_le, nat_lt, slice_get, unwrap_or}
use Rattle.std.specs.List.{starts_with, AllByRecursion}
use Rattle.std.proofs.lemmas.Bool.Decides.{nat_tests}
use Rattle.std.proofs.lemmas.List.{append-nil, drop-drop, drop_all, drop_at, length-append, length-drop, length-take, length-take-le, take_at}
use Rattle.kl_ar.specs.Archives.{IsFirst, Placed, data_at, even_from, fault_if, faults, faults_at, form_at, has_end, header_at, header_faults, headers, headers_from, magic_faults, name_faults, name_faults_by, name_in, next_at, placed, size_at, size_of, table_by}
use Rattle.kl_ar.specs.Fields.{bytes_at, is_empty}
use Rattle.kl_ar.specs.Grammar.{AreRead, AreStored, HaveParts, IsArchive, IsNameError, IsOfNames, IsStored, IsWhole, Stored, pad_len, place_behind, places_from, stored_bytes}
use Rattle.kl_ar.specs.declared.fault.ArError.{ArError}
use Rattle.kl_ar.specs.declared.fault.ArError.TheVariants as error
use Rattle.kl_ar.specs.declared.fault.ArFault.{ArFault}
use Rattle.kl_ar.specs.declared.name.NameForm.{NameForm}
use Rattle.kl_ar.specs.declared.name.NameForm.TheVariants.{SymbolIndex, LongNames, InTable, InData, InField, NoNumber}
use Rattle.kl_ar.specs.declared.fault.ArFault.TheVariants as fault
use Rattle.kl_base.proofs.Bools.{equal_bytes}
use Rattle.kl_ar.specs.declared.format.TheConstants.{MAGIC, THIN_MAGIC}
use Rattle.kl_ar.proofs.Walks.{le_false, le_true, next_behind, past_none}

-- a fault that doesn't stand
free : (t : Bool) (f : ArFault) (xs : List ArFault) → fault_if t f ++ xs ≡ [] → (t ≡ false) × (xs ≡ [])
free true f xs e = cc
free false f xs e = (refl, e)

none_left : (xs ys : List ArFault) → xs ++ ys ≡ [] → xs ≡ []
none_left [] ys e = refl
none_left (x ∷ xs) ys e = cc

none_right : (xs ys : List ArFault) → xs ++ ys ≡ [] → ys ≡ []
none_right [] ys e = e
none_right (x ∷ xs) ys e = cc

not_below : (m n : ℕ) → nat_lt m n ≡ false → n ≤ m
not_below m n e = grind (arith, nat_tests)

below : (m n : ℕ) → nat_lt m n ≡ true → m < n
below m n e = grind (arith, nat_tests)

not_false : (t : Bool) → not t ≡ false → t ≡ true
not_false true e = refl
not_false false e = cc

some_size : (o : Option ℕ) → is_none o ≡ false → o ≡ Some (unwrap_or o 0)
some_size None e = cc
some_size (Some n) e = refl

-- a header without a fault
record IsSound (b : List ℕ) (at : ℕ) : Type 0 where
  room : at + 60 ≤ length b
  ended : has_end (header_at b at) ≡ true
  size : size_of (header_at b at) ≡ Some (size_at b at)
  within : at + 60 + size_at b at ≤ length b

sound_header : (b : List ℕ) (at : ℕ) → header_faults b at ≡ [] → IsSound b at
unfolding header_faults
sound_header b at none =
    let last = none_right _ _ none in
    let before = none_left _ _ none in
    let third = none_right _ _ before in
    let two = none_left _ _ before in
    record {
      room = not_below _ _ (free _ _ [] (append-nil _ ∙ none_left _ _ two)).0;
      ended = not_false _ (free _ _ [] (append-nil _ ∙ none_right _ _ two)).0;
      size = some_size _ (free _ _ [] (append-nil _ ∙ third)).0;
      within = not_below _ _ (free _ _ [] (append-nil _ ∙ last)).0;
    }

-- what is read of a file: the member at each header's place
abbrev stored_at : List ℕ → ℕ → Stored
stored_at b at = record { header = header_at b at; content = data_at b at; pad = bytes_at b (at + 60 + size_at b at) (next_at b at - (at + 60 + size_at b at)) }

abbrev stored_from : List ℕ → ℕ → ℕ → List Stored
stored_from b zero at = []
stored_from b (suc n) at = cond (nat_le (length b) at) [] (stored_at b at ∷ stored_from b n (next_at b at))

-- the parts of a file behind a place, one behind the other
part_and_rest : (b : List ℕ) (at n : ℕ) → drop at b ≡ bytes_at b at n ++ drop (at + n) b
part_and_rest b at n = sym (take-append-drop n (drop at b)) ∙ ap (λ (x : List ℕ). bytes_at b at n ++ x) (drop-drop n at b)

length_part : (b : List ℕ) (at n : ℕ) → at + n ≤ length b → length (bytes_at b at n) ≡ n
length_part b at n h = length-take-le n (drop at b) (omega (arith, length-drop at b))

few_in_part : (b : List ℕ) (at n : ℕ) → length (bytes_at b at n) ≤ n
few_in_part b at n = omega (arith, length-take n (drop at b))

-- the next even place behind an even one
even_next : (h n : ℕ) → even_from (2 * h + 60 + n) ≡ 2 * h + 60 + n + n % 2
even_next h n = omega arith

next_is : (b : List ℕ) (h : ℕ) → next_at b (2 * h) ≡ 2 * h + 60 + size_at b (2 * h) + size_at b (2 * h) % 2
next_is b h = even_next h (size_at b (2 * h))

half_next : (h n : ℕ) → 2 * h + 60 + n + n % 2 ≡ 2 * (h + 30 + (n + 1) / 2)
half_next h n = omega arith

bytes_here : (b : List ℕ) (at : ℕ) → drop at b ≡ stored_bytes (stored_at b at) ++ drop (next_at b at) b
bytes_here b at =
    let size = size_at b at in
    let end = at + 60 + size in
    let pad = next_at b at - end in
    let reach : end + pad ≡ next_at b at = omega (arith, past end) in
    let tail : drop end b ≡ bytes_at b end pad ++ drop (next_at b at) b = part_and_rest b end pad ∙ ap (λ (x : ℕ). bytes_at b end pad ++ drop x b) reach in
    let header = header_at b at in
    let content = data_at b at in
    part_and_rest b at 60
    ∙ (ap (λ (x : List ℕ). header ++ x) (part_and_rest b (at + 60) size)
    ∙ (ap (λ (x : List ℕ). header ++ (content ++ x)) tail
    ∙ (sym (append_assoc header content (bytes_at b end pad ++ drop (next_at b at) b))
    ∙ sym (append_assoc (header ++ content) (bytes_at b end pad) (drop (next_at b at) b)))))
  where
    past : (n : ℕ) → n ≤ even_from n
    past n = omega arith

-- where the headers are read
headers_in : (b : List ℕ) (n at : ℕ) → at < length b → headers_from b (suc n) at ≡ at ∷ cond (is_empty (header_faults b at)) (headers_from b n (next_at b at)) []
headers_in b n at h = rw (le_false (length b) at h) refl

headers_more : (b : List ℕ) (n at : ℕ) → at < length b → header_faults b at ≡ [] → headers_from b (suc n) at ≡ at ∷ headers_from b n (next_at b at)
headers_more b n at h sound =
    headers_in b n at h ∙ ap (λ (xs : List ArFault). at ∷ cond (is_empty xs) (headers_from b n (next_at b at)) []) sound

stored_in : (b : List ℕ) (n at : ℕ) → at < length b → stored_from b (suc n) at ≡ stored_at b at ∷ stored_from b n (next_at b at)
stored_in b n at h = rw (le_false (length b) at h) refl

stored_none : (b : List ℕ) (n at : ℕ) → length b ≤ at → stored_from b n at ≡ []
stored_none b zero at h = refl
stored_none b (suc n) at h = rw (le_true (length b) at h) refl

sound_all : (b : List ℕ) (table : Option ℕ) (hs : List ℕ) → flat_map (faults_at b) (placed b table hs) ≡ [] → AllByRecursion (λ at. header_faults b at ≡ []) hs
sound_all b table [] none = tt
sound_all b table (at ∷ hs) none =
    (none_left (header_faults b at) _ (none_left _ _ none), sound_all b (table_by (form_at b at) at table) hs (none_right (faults_at b (record { at = at; table = table })) _ none))

more_stored : (s : Stored) (rest : List Stored) → IsStored s → length s.pad ≤ pad_len s → (0 < length rest → length s.pad ≡ pad_len s) → AreStored rest → AreStored (s ∷ rest)
more_stored s [] is short exact are = (is, short)
more_stored s (t ∷ rest) is short exact are = (is, exact (omega arith), are)

record IsRead (b : List ℕ) (at : ℕ) (hs : List ℕ) (ss : List Stored) : Type 0 where
  bytes : drop at b ≡ flat_map stored_bytes ss
  each : AreStored ss
  places : hs ≡ places_from at ss
  parts : HaveParts b at ss

nothing_read : (b : List ℕ) (at : ℕ) → length b ≤ at → IsRead b at [] []
nothing_read b at h = record { bytes = drop_all at b h; each = tt; places = refl; parts = tt }

one_read : (b : List ℕ) (n h : ℕ) (hs : List ℕ) → IsSound b (2 * h) → (0 < length (stored_from b n (next_at b (2 * h))) → next_at b (2 * h) < length b)
    → IsRead b (next_at b (2 * h)) hs (stored_from b n (next_at b (2 * h)))
    → IsRead b (2 * h) (2 * h ∷ hs) (stored_at b (2 * h) ∷ stored_from b n (next_at b (2 * h)))
one_read b n h hs is inside read =
    let at = 2 * h in
    let s = stored_at b at in
    let size = size_at b at in
    let next = next_is b h in
    let content : length s.content ≡ size = length_part b (at + 60) size is.within in
    let fill : pad_len s ≡ size % 2 = ap (λ (x : ℕ). x % 2) content in
    let width : next_at b at - (at + 60 + size) ≡ size % 2 = omega (arith, next) in
    let reach : at + 60 + length s.content + pad_len s ≡ next_at b at = omega (arith, next, content, fill) in
    record {
      bytes = bytes_here b at ∙ ap (λ (x : List ℕ). stored_bytes s ++ x) read.bytes;
      each = more_stored s (stored_from b n (next_at b at))
          (record { full = length_part b at 60 is.room; ended = is.ended; size = is.size ∙ ap (λ (x : ℕ). Some x) (sym content) })
          (let few = few_in_part b (at + 60 + size) (next_at b at - (at + 60 + size)) in omega (arith, few, width, fill))
          (λ some. (let all = inside some in let exact = length_part b (at + 60 + size) (next_at b at - (at + 60 + size)) (omega (arith, next, all)) in omega (arith, exact, width, fill)))
          read.each;
      places = ap (λ (xs : List ℕ). at ∷ xs) (read.places ∙ ap (λ (x : ℕ). places_from x (stored_from b n (next_at b at))) (sym reach));
      parts = (refl, refl, subst (λ (x : ℕ). HaveParts b x (stored_from b n (next_at b at))) (sym reach) read.parts);
    }

some_inside : (b : List ℕ) (n at : ℕ) → 0 < length (stored_from b n at) → at < length b
some_inside b n at some = go (nat_lt at (length b)) refl
  where
    go : (t : Bool) → nat_lt at (length b) ≡ t → at < length b
    go true e = grind (arith, nat_tests)
    go false e = absurd (let none = ap (λ (x : List Stored). length x) (stored_none b n at (not_below at (length b) e)) in omega (arith, none, some))

all_read : (b : List ℕ) (n h : ℕ) → length b ≤ 2 * h + n → AllByRecursion (λ at. header_faults b at ≡ []) (headers_from b n (2 * h)) → IsRead b (2 * h) (headers_from b n (2 * h)) (stored_from b n (2 * h))
all_read b zero h room sound = nothing_read b (2 * h) (omega arith)
all_read b (suc n) h room sound =
    let next = next_is b h ∙ half_next h (size_at b (2 * h)) in
    let far = next_behind b (2 * h) in
    let half = h + 30 + (size_at b (2 * h) + 1) / 2 in
    go (nat_lt (2 * h) (length b)) refl
    (λ rest. subst (λ (x : ℕ). IsRead b x (headers_from b n x) (stored_from b n x)) (sym next)
    (all_read b n half (omega (arith, next, far)) (subst (λ (x : ℕ). AllByRecursion (λ at. header_faults b at ≡ []) (headers_from b n x)) next rest)))
  where
    go : (t : Bool) → nat_lt (2 * h) (length b) ≡ t
        → (AllByRecursion (λ at. header_faults b at ≡ []) (headers_from b n (next_at b (2 * h))) → IsRead b (next_at b (2 * h)) (headers_from b n (next_at b (2 * h))) (stored_from b n (next_at b (2 * h))))
        → IsRead b (2 * h) (headers_from b (suc n) (2 * h)) (stored_from b (suc n) (2 * h))
    go true e rest =
        let inside = below (2 * h) (length b) e in
        let all = subst (AllByRecursion (λ at. header_faults b at ≡ [])) (headers_in b n (2 * h) inside) sound in
        let here = all.0 in
        let behind = subst (λ (xs : List ArFault). AllByRecursion (λ at. header_faults b at ≡ []) (cond (is_empty xs) (headers_from b n (next_at b (2 * h))) [])) here all.1 in
        rw (headers_more b n (2 * h) inside here, stored_in b n (2 * h) inside)
        (one_read b n h (headers_from b n (next_at b (2 * h))) (sound_header b (2 * h) here) (some_inside b n (next_at b (2 * h))) (rest behind))
    go false e rest =
        let past = not_below (2 * h) (length b) e in
        rw (past_none b (suc n) (2 * h) past, stored_none b (suc n) (2 * h) past) (nothing_read b (2 * h) past)

-- the beginning of a file without a fault
starts_is : (b : List ℕ) → magic_faults b ≡ [] → starts_with nat_eq b MAGIC ≡ true
unfolding magic_faults
starts_is b none = go (starts_with nat_eq b THIN_MAGIC) (starts_with nat_eq b MAGIC) none
  where
    go : (thin magic : Bool) → cond thin (fault.Thin ∷ []) (fault_if (not magic) fault.Magic) ≡ [] → magic ≡ true
    go true magic e = cc
    go false true e = refl
    go false false e = cc

pub whole_read : (b : List ℕ) → faults b ≡ [] → IsWhole b
unfolding faults headers
whole_read b none =
    let magic : MAGIC ≡ take 8 b = equal_bytes MAGIC (take 8 b) (starts_is b (none_left (magic_faults b) _ none)) in
    let read = all_read b (length b) 4 (omega arith) (sound_all b None (headers_from b (length b) 8) (none_right (magic_faults b) _ none)) in
    record {
      stored = stored_from b (length b) 8;
      archive = record { bytes = sym (take-append-drop 8 b) ∙ (ap (λ (x : List ℕ). x ++ drop 8 b) (sym magic) ∙ ap (λ (x : List ℕ). MAGIC ++ x) read.bytes); each = read.each };
      read = record { headers = read.places; parts = read.parts };
    }

-- the other way: a file that is written so
module _ (b pre more : List ℕ) (s : Stored) (is : IsStored s) (bytes : b ≡ pre ++ (stored_bytes s ++ more)) where
  behind_pre : drop (length pre) b ≡ s.header ++ (s.content ++ (s.pad ++ more))
  behind_pre =
      ap (drop (length pre)) bytes
      ∙ (drop_at pre (stored_bytes s ++ more) (length pre) refl
      ∙ (append_assoc (s.header ++ s.content) s.pad more ∙ append_assoc s.header s.content (s.pad ++ more)))

  header_back : header_at b (length pre) ≡ s.header
  header_back = ap (take 60) behind_pre ∙ take_at s.header (s.content ++ (s.pad ++ more)) 60 is.full

  size_back : size_at b (length pre) ≡ length s.content
  size_back = ap (λ (x : List ℕ). unwrap_or (size_of x) 0) header_back ∙ ap (λ (o : Option ℕ). unwrap_or o 0) is.size

  data_back : data_at b (length pre) ≡ s.content
  data_back =
      ap (λ (x : ℕ). bytes_at b (length pre + 60) x) size_back
      ∙ (ap (take (length s.content)) (sym (drop-drop 60 (length pre) b) ∙ (ap (drop 60) behind_pre ∙ drop_at s.header (s.content ++ (s.pad ++ more)) 60 is.full))
      ∙ take_at s.content (s.pad ++ more) (length s.content) refl)

  length_back : length b ≡ length pre + 60 + length s.content + length s.pad + length more
  length_back =
      let all = ap length bytes in
      omega (arith, all, length-append pre (stored_bytes s ++ more), length-append (stored_bytes s) more, length-append (s.header ++ s.content) s.pad, length-append s.header s.content, is.full)

  is_sound : IsSound b (length pre)
  is_sound = record {
    room = omega (arith, length_back);
    ended = ap has_end header_back ∙ is.ended;
    size = ap size_of header_back ∙ (is.size ∙ ap (λ (x : ℕ). Some x) (sym size_back));
    within = omega (arith, length_back, size_back);
  }

not_under : (m n : ℕ) → n ≤ m → nat_lt m n ≡ false
not_under m n h = grind (arith, nat_tests)

sound_back : (b : List ℕ) (at : ℕ) → IsSound b at → header_faults b at ≡ []
unfolding header_faults
sound_back b at is =
    rw (not_under (length b) (at + 60) is.room, is.ended, not_under (length b) (at + 60 + size_at b at) is.within)
    (ap (λ (o : Option ℕ). fault_if (is_none o) (fault.SizeText (at + 48)) ++ []) is.size)

record IsBack (b : List ℕ) (at : ℕ) (hs : List ℕ) (ss : List Stored) : Type 0 where
  places : hs ≡ places_from at ss
  parts : HaveParts b at ss
  sound : AllByRecursion (λ at. header_faults b at ≡ []) hs

nothing_back : (b : List ℕ) (n at : ℕ) → length b ≤ at → IsBack b at (headers_from b n at) []
nothing_back b n at h = rw (past_none b n at h) (record { places = refl; parts = tt; sound = tt })

one_back : (b : List ℕ) (n at : ℕ) (s : Stored) (rest : List Stored) → at < length b → header_faults b at ≡ [] → next_at b at ≡ place_behind at s
    → header_at b at ≡ s.header → data_at b at ≡ s.content → IsBack b (place_behind at s) (headers_from b n (place_behind at s)) rest
    → IsBack b at (headers_from b (suc n) at) (s ∷ rest)
one_back b n at s rest inside sound is header content back =
    rw (headers_more b n at inside sound, is)
    (record { places = ap (λ (xs : List ℕ). at ∷ xs) back.places; parts = (header, content, back.parts); sound = (sound, back.sound) })

first_is : (s : Stored) (rest : List Stored) → AreStored (s ∷ rest) → IsStored s
first_is s [] are = are.0
first_is s (t ∷ rest) are = are.0

next_back : (b pre more : List ℕ) (s : Stored) (h : ℕ) → IsStored s → b ≡ pre ++ (stored_bytes s ++ more) → length pre ≡ 2 * h
    → next_at b (length pre) ≡ place_behind (length pre) s
next_back b pre more s h is bytes even =
    let size = size_back b pre more s is bytes in
    ap (λ (x : ℕ). even_from (length pre + 60 + x)) size
    ∙ (ap (λ (x : ℕ). even_from (x + 60 + length s.content)) even
    ∙ (even_next h (length s.content) ∙ ap (λ (x : ℕ). x + 60 + length s.content + length s.content % 2) (sym even)))

all_back : (b : List ℕ) (n h : ℕ) (pre : List ℕ) (ss : List Stored) → AreStored ss → b ≡ pre ++ flat_map stored_bytes ss → length pre ≡ 2 * h → length b ≤ length pre + n
    → IsBack b (length pre) (headers_from b n (length pre)) ss
all_back b n h pre [] are bytes even room = nothing_back b n (length pre) (let all = ap length (bytes ∙ append-nil pre) in omega (arith, all))
all_back b zero h pre (s ∷ rest) are bytes even room =
    absurd (let long = length_back b pre (flat_map stored_bytes rest) s (first_is s rest are) bytes in omega (arith, long, room))
all_back b (suc n) h pre (s ∷ []) are bytes even room =
    let is = are.0 in
    let long = length_back b pre [] s is bytes in
    let next = place_behind (length pre) s in
    one_back b n (length pre) s [] (omega (arith, long)) (sound_back b (length pre) (is_sound b pre [] s is bytes)) (next_back b pre [] s h is bytes even)
    (header_back b pre [] s is bytes) (data_back b pre [] s is bytes)
    (nothing_back b n next (omega (arith, long, are.1)))
all_back b (suc n) h pre (s ∷ t ∷ rest) are bytes even room =
    let is = are.0 in
    let more = flat_map stored_bytes (t ∷ rest) in
    let long = length_back b pre more s is bytes in
    let next = place_behind (length pre) s in
    let far : length (pre ++ stored_bytes s) ≡ next =
    omega (arith, length-append pre (stored_bytes s), length-append (s.header ++ s.content) s.pad, length-append s.header s.content, is.full, are.1) in
    let half : length (pre ++ stored_bytes s) ≡ 2 * (h + 30 + (length s.content + 1) / 2) =
    far ∙ (ap (λ (x : ℕ). x + 60 + length s.content + pad_len s) even ∙ half_next h (length s.content)) in
    let back = all_back b n (h + 30 + (length s.content + 1) / 2) (pre ++ stored_bytes s) (t ∷ rest) are.2 (bytes ∙ sym (append_assoc pre (stored_bytes s) more)) half (omega (arith, far, room)) in
    one_back b n (length pre) s (t ∷ rest) (omega (arith, long)) (sound_back b (length pre) (is_sound b pre more s is bytes)) (next_back b pre more s h is bytes even)
    (header_back b pre more s is bytes) (data_back b pre more s is bytes)
    (subst (λ (x : ℕ). IsBack b x (headers_from b n x) (t ∷ rest)) far back)

archive_back : (b : List ℕ) (ss : List Stored) → IsArchive b ss → IsBack b 8 (headers_from b (length b) 8) ss
archive_back b ss is = all_back b (length b) 4 MAGIC ss is.each is.bytes refl (omega arith)

pub read_back : (b : List ℕ) (ss : List Stored) → IsArchive b ss → AreRead b ss
unfolding headers
read_back b ss is = let back = archive_back b ss is in record { headers = back.places; parts = back.parts }

-- so nothing but a long name is told of it
magic_back : (b x : List ℕ) → b ≡ MAGIC ++ x → magic_faults b ≡ []
unfolding magic_faults
magic_back b x is = rw is refl

of_names : (b : List ℕ) (p : Placed) → AllByRecursion IsOfNames (name_faults b p)
unfolding name_faults
of_names b p = go (form_at b p.at)
  where
    maybe : (t : Bool) → AllByRecursion IsOfNames (fault_if t (fault.LongName p.at))
    maybe true = (tt, tt)
    maybe false = tt

    go : (f : NameForm) → AllByRecursion IsOfNames (name_faults_by b p f)
    go SymbolIndex = tt
    go LongNames = tt
    go (InTable place) = maybe (is_none (name_in b p.table place))
    go (InData len) = maybe (nat_lt (size_at b p.at) len)
    go (InField len) = tt
    go NoNumber = (tt, tt)

both_all : (xs ys : List ArFault) → AllByRecursion IsOfNames xs → AllByRecursion IsOfNames ys → AllByRecursion IsOfNames (xs ++ ys)
both_all [] ys one other = other
both_all (x ∷ xs) ys one other = (one.0, both_all xs ys one.1 other)

names_alone : (b : List ℕ) (table : Option ℕ) (hs : List ℕ) → AllByRecursion (λ at. header_faults b at ≡ []) hs → AllByRecursion IsOfNames (flat_map (faults_at b) (placed b table hs))
names_alone b table [] sound = tt
names_alone b table (at ∷ hs) sound =
    let p : Placed = record { at = at; table = table } in
    both_all (faults_at b p) _ (subst (λ (xs : List ArFault). AllByRecursion IsOfNames (xs ++ name_faults b p)) (sym sound.0) (of_names b p))
    (names_alone b (table_by (form_at b at) at table) hs sound.1)

first_of_names : (xs : List ArFault) (f : ArFault) → AllByRecursion IsOfNames xs → slice_get xs 0 ≡ Some f → IsOfNames f
first_of_names [] f are e = cc
first_of_names (x ∷ xs) f are e = let same : x ≡ f = cc in subst IsOfNames same are.0

pub name_error : (b : List ℕ) (ss : List Stored) (e : ArError) → IsArchive b ss → IsFirst (faults b) e → IsNameError e
unfolding faults headers
name_error b ss error.NoMemory is first = tt
name_error b ss (error.Flaw f) is first =
    first_of_names (faults b) f
    (both_all (magic_faults b) _ (subst (AllByRecursion IsOfNames) (sym (magic_back b (flat_map stored_bytes ss) is.bytes)) tt)
    (names_alone b None (headers_from b (length b) 8) (archive_back b ss is).sound))
    first

-- by what is answered
pub whole_if_ok : {T : Type 0} (b : List ℕ) (result : Result T ArError) → OnOk result (faults b ≡ []) → OnOk result (IsWhole b)
whole_if_ok b (Ok x) none = whole_read b none
whole_if_ok b (Err e) none = tt

pub name_errors : {T : Type 0} (b : List ℕ) (result : Result T ArError) → IfErr result (IsFirst (faults b)) → IfErr result (λ e. (stored : List Stored) → IsArchive b stored → IsNameError e)
name_errors b (Ok x) first = tt
name_errors b (Err e) first = λ stored is. name_error b stored e is first
