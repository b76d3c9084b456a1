-- A library that is laid out: its classes, its made areas, and numbers below 2^64.
use Rattle.std.proofs.Common.{ℕ, suc, ◌≡◌, ◌+◌, ◌-◌, ◌*◌, ◌^◌, ◌<◌, ◌≤◌, ◌∙◌, List, [], ◌∷◌, ◌++◌, length, length-append, get_or, map, refl, ap, subst, arith, Bool, true, false, nat_eq, ◌&&◌, inl, inr}
use Rattle.std.specs.Prelude.{Option, ◌==◌, nat_lt, cond, All, is_some, sum_by}
use Rattle.std.specs.List.{list_all}
use Rattle.std.proofs.lemmas.Bool.{cases_lt, le-ltb, ltb-true, ne_eqb}
use Rattle.std.proofs.lemmas.List.{get_or_past, length-map}
use Rattle.std.proofs.lemmas.List.Elements.{All-append, All-cons, All-map}
use Rattle.std.proofs.lemmas.List.Sums.{sum_by-cons}
use Rattle.kl_base.specs.declared.class.Class.TheVariants.{Text, Rodata, Rwdata}
use Rattle.kl_base.specs.declared.limits.TheConstants.{SPAN_LIMIT}
use Rattle.kl_elf.specs.declared.records.Dyn.{Dyn}
use Rattle.kl_model.specs.Areas.{class_number}
use Rattle.kl_model.specs.Carries.{library_segments, segments_for}
use Rattle.kl_model.specs.Laid.{area_at, class_end, no_area, place_of, reach, start_of, end_of, unwrapped}
use Rattle.kl_model.specs.Line.{class_line, got_spread, made_parts, made_spread, run_spreads, spreads}
use Rattle.kl_model.specs.Lists.{only_if, up}
use Rattle.kl_model.specs.Sizes.{bucket_count, ended_size, has_bytes, made_for, made_of, names_size, page_of, soname_size, strings_size, symbol_count, tables_of, tags}
use Rattle.kl_model.specs.Slots.{jump_entries, rela_entries, slots, stubs}
use Rattle.kl_model.specs.Tables.{area_size, dynamic_of, needed_from, tag_value}
use Rattle.kl_model.specs.declared.place.Made.{Made}
use Rattle.kl_model.specs.declared.place.Body.{Body}
use Rattle.kl_model.specs.declared.place.Body.TheVariants as body
use Rattle.kl_model.specs.declared.place.Gaps.{Gaps}
use Rattle.kl_model.specs.declared.place.Placement.{Placement}
use Rattle.kl_model.specs.declared.graph.Graph.{Graph}
use Rattle.kl_model.specs.declared.kit.Kit.{Kit}
use Rattle.kl_model.specs.declared.kit.KitKind.TheVariants.{Library}
use Rattle.kl_model.specs.declared.object.Input.{Input}
use Rattle.kl_model.proofs.ClassMemory.{InOrder}
use Rattle.kl_model.proofs.Covered.{In, here, there, in_right, IsWhole}
use Rattle.kl_model.proofs.InOrder.{area_is, end-reach, le-start, le-up}
use Rattle.kl_write.specs.LaidKits.{HasAreaAddresses, IsLaidKit}
use Rattle.kl_write.specs.Writes.{file_place}
use Rattle.kl_write.proofs.AreaFound.{aligned-of, found}
use Rattle.kl_write.proofs.FileBytes.{HeadersRead}
use Rattle.kl_write.proofs.FileSegments.{headers_size}
use Rattle.kl_write.proofs.Homes.{aligned-spreads}
use Rattle.kl_write.proofs.LawBytes.{dynamic_part, got_part, made_within, stubs_part, tables_part}
use Rattle.kl_write.proofs.LawFields.{read}
use Rattle.kl_write.proofs.SoundLaid.{four_classes, ordered, positive, top}
use Rattle.kl_write.proofs.Stands.{got_class}
use Rattle.kl_write.proofs.WholeOrder.{whole_order}
use Rattle.kl_loading.proofs.Rows.{IsSmallDyn}

-- the tags are small numbers
abbrev is_low : ℕ → Bool
is_low x = nat_lt x 64

both : (a b : Bool) → (a && b) ≡ true → (a ≡ true) × (b ≡ true)
both true b e = (refl, e)
both false b e = cc

low_both : (xs ys : List ℕ) → list_all is_low xs ≡ true → list_all is_low ys ≡ true → list_all is_low (xs ++ ys) ≡ true
low_both [] ys h i = i
low_both (x ∷ xs) ys h i = let b = both (is_low x) (list_all is_low xs) h in rw (b.0) (low_both xs ys b.1 i)

low_only : (b : Bool) (x : ℕ) → list_all is_low (x ∷ []) ≡ true → list_all is_low (only_if b x) ≡ true
low_only true x h = h
low_only false x h = refl

low_if : (b : Bool) (xs ys : List ℕ) → list_all is_low xs ≡ true → list_all is_low ys ≡ true → list_all is_low (cond b xs ys) ≡ true
low_if true xs ys h i = h
low_if false xs ys h i = i

low_all : (xs : List ℕ) → list_all is_low xs ≡ true → All (λ x. x < 2 ^ 64) xs
low_all [] h = λ k d l. absurd (omega (arith, l))
low_all (x ∷ xs) h =
    let b = both (is_low x) (list_all is_low xs) h in
    let small : x < 64 = ltb-true x 64 b.0 in
    All-cons (λ x. x < 2 ^ 64) x xs (omega (arith, small)) (low_all xs b.1)

abbrev last_two : List ℕ
last_two = 30 ∷ 0 ∷ []

abbrev jump_tags : Graph → List ℕ
jump_tags g = cond (length (jump_entries g) == 0) [] (23 ∷ 2 ∷ 20 ∷ 3 ∷ [])

abbrev rela_tags : Graph → List ℕ
rela_tags g = cond (length (rela_entries g) == 0) [] (7 ∷ 8 ∷ 9 ∷ [])

low_tags : (kit : Kit) (g : Graph) → list_all is_low (tags kit g) ≡ true
low_tags kit g =
    low_both (only_if (is_some kit.soname) 14) _ (low_only (is_some kit.soname) 14 refl)
    (low_both (only_if (has_bytes g 4) 12) _ (low_only (has_bytes g 4) 12 refl)
    (low_both (only_if (has_bytes g 5) 13) _ (low_only (has_bytes g 5) 13 refl)
    (low_both (cond (has_bytes g 11) (25 ∷ 27 ∷ []) []) _ (low_if (has_bytes g 11) (25 ∷ 27 ∷ []) [] refl refl)
    (low_both (cond (has_bytes g 12) (26 ∷ 28 ∷ []) []) _ (low_if (has_bytes g 12) (26 ∷ 28 ∷ []) [] refl refl)
    (low_both (4 ∷ 5 ∷ 6 ∷ 10 ∷ 11 ∷ []) (rela_tags g ++ (jump_tags g ++ last_two)) refl
    (low_both (rela_tags g) (jump_tags g ++ last_two) (low_if (length (rela_entries g) == 0) [] (7 ∷ 8 ∷ 9 ∷ []) refl refl)
    (low_both (jump_tags g) last_two (low_if (length (jump_entries g) == 0) [] (23 ∷ 2 ∷ 20 ∷ 3 ∷ []) refl refl) refl)))))))

some_right : (xs ys : List ℕ) → 0 < length ys → 0 < length (xs ++ ys)
some_right xs ys h = omega (arith, h, length-append xs ys)

pub some_tags : (kit : Kit) (g : Graph) → 0 < length (tags kit g)
some_tags kit g =
    some_right (only_if (is_some kit.soname) 14) _
    (some_right (only_if (has_bytes g 4) 12) _
    (some_right (only_if (has_bytes g 5) 13) _
    (some_right (cond (has_bytes g 11) (25 ∷ 27 ∷ []) []) _ (some_right (cond (has_bytes g 12) (26 ∷ 28 ∷ []) []) (4 ∷ 5 ∷ 6 ∷ 10 ∷ 11 ∷ (rela_tags g ++ (jump_tags g ++ last_two))) (omega arith)))))

length-needed : (at : ℕ) (ts : List (List ℕ)) → length (needed_from at ts) ≡ length ts
length-needed at [] = refl
length-needed at (t ∷ ts) = ap suc (length-needed (suc (at + length t)) ts)

pub length-dynamic : (kit : Kit) (g : Graph) (p : Placement) → length (dynamic_of kit g p) ≡ length kit.needed + length (tags kit g)
length-dynamic kit g p =
    omega (
      arith,
      length-append (needed_from (names_size g + soname_size kit) kit.needed) (map (λ tag. record { tag = tag; value = tag_value kit g p tag }) (tags kit g)),
      length-needed (names_size g + soname_size kit) kit.needed,
      length-map (tags kit g) (λ tag. the_row tag),
    )
  where
    the_row : ℕ → Dyn
    the_row tag = record { tag = tag; value = tag_value kit g p tag }

needed_small : (at : ℕ) (ts : List (List ℕ)) → at + sum_by ended_size ts < 2 ^ 64 → All IsSmallDyn (needed_from at ts)
needed_small at [] h = λ k d l. absurd (omega (arith, l))
needed_small at (t ∷ ts) h =
    All-cons IsSmallDyn (record { tag = 1; value = at }) (needed_from (suc (at + length t)) ts) (record { tag = omega arith; value = omega (arith, h) })
    (needed_small (suc (at + length t)) ts (omega (arith, h, sum_by-cons ended_size t ts)))

end_made : (at : Body → ℕ) (from n size align : ℕ) → nat_eq size 0 ≡ false → end_of at from (made_parts n size align) ≡ at (body.Area n) + size
end_made at from n size align e = rw e refl

pick : (b : Bool) (x y : ℕ) → x < 2 ^ 64 → y < 2 ^ 64 → cond b x y < 2 ^ 64
pick true x y h i = h
pick false x y h i = i

module _ (kit : Kit) (inputs : List Input) (g : Graph) (gaps : Option Gaps) (order : List ℕ) (p : Placement) (library : kit.kind ≡ Library) (laid : IsLaidKit kit g gaps order p)
    (numbers : HasAreaAddresses p) where
  abbrev pub made : Made
  made = made_of kit g

  abbrev pub page : ℕ
  page = page_of kit g

  pub whole : IsWhole g order
  whole = whole_order g order laid.whole

  pub in_order_too : InOrder p
  in_order_too = ordered kit g gaps order made p laid.laid laid.small laid.base laid.sound whole

  pub base : p.base ≡ 0
  base = laid.laid.base ∙ laid.origin library

  pub is_top : (area_at p 3).end ≤ SPAN_LIMIT
  is_top = omega (arith, base, top kit g gaps order made p laid.laid laid.small laid.base laid.sound whole)

  pub heads : HeadersRead kit inputs g gaps p
  heads = read kit inputs g gaps order p laid.origin laid.laid laid.small laid.base laid.sound whole numbers

  -- the headers stand before text
  pub front : headers_size (library_segments page p) ≤ (area_at p 0).start
  front =
      let size = heads.size in
      let before = heads.front in
      let any : headers_size (segments_for kit.kind page p) ≤ file_place kit.kind p (area_at p 0).start = omega (arith, size, before) in
      let own : headers_size (library_segments page p) ≤ 0 + ((area_at p 0).start - p.base) = subst (λ k. headers_size (segments_for k page p) ≤ file_place k p (area_at p 0).start) library any in
      omega (arith, own)

  -- addresses of areas
  pub area_small : (n : ℕ) → ((area_at p n).start < 2 ^ 64) × ((area_at p n).end < 2 ^ 64)
  area_small n = (plain (get_or p.areas n no_area).start (both n).0, plain (get_or p.areas n no_area).end (both n).1)
    where
      both : (n : ℕ) → ((get_or p.areas n no_area).start < 2 ^ 64) × ((get_or p.areas n no_area).end < 2 ^ 64)
      both n =
          elim (cases_lt n (length p.areas)) [
            | inl l ↦ numbers n no_area l
            | inr l ↦ (let e = get_or_past p.areas n no_area l in rw e (omega arith, omega arith))
          ]

      plain : (a : ℕ) → a < 2 ^ 64 → unwrapped p a < 2 ^ 64
      plain a h = let none : nat_lt a p.base ≡ false = le-ltb a p.base (omega (arith, base)) in rw none h

  -- the sizes of the made areas
  pub stubs_size : made.stubs ≡ 16 * length (stubs g)
  stubs_size = ap (λ k. (made_for k kit g).stubs) library

  pub tables_size : made.tables ≡ (tables_of kit g).stop
  tables_size = ap (λ k. (made_for k kit g).tables) library

  pub got_size : made.got ≡ 8 * length (slots g)
  got_size = ap (λ k. (made_for k kit g).got) library

  pub dynamic_size : made.dynamic ≡ 16 * (length kit.needed + length (tags kit g))
  dynamic_size = ap (λ k. (made_for k kit g).dynamic) library

  -- the made areas lie in their classes
  pub stubs_inside : (q : ℕ) → q < made.stubs → ((area_at p 0).start ≤ (area_at p 6).start) × ((area_at p 6).start + made.stubs ≤ (area_at p 0).end)
  stubs_inside q l =
      made_within kit inputs g gaps order p laid.origin laid.laid laid.small laid.base laid.sound whole heads Text 6 made.stubs 16
      (stubs_part kit inputs g gaps order p laid.origin laid.laid laid.small laid.base laid.sound whole heads) q l

  pub tables_inside : (q : ℕ) → q < made.tables → ((area_at p 1).start ≤ (area_at p 8).start) × ((area_at p 8).start + made.tables ≤ (area_at p 1).end)
  tables_inside q l =
      made_within kit inputs g gaps order p laid.origin laid.laid laid.small laid.base laid.sound whole heads Rodata 8 made.tables 8
      (tables_part kit inputs g gaps order p laid.origin laid.laid laid.small laid.base laid.sound whole heads) q l

  pub got_inside : (q : ℕ) → q < made.got → ((area_at p 2).start ≤ (area_at p 13).start) × ((area_at p 13).start + made.got ≤ (area_at p 2).end)
  got_inside q l =
      subst (λ c. ((area_at p (class_number c)).start ≤ (area_at p 13).start) × ((area_at p 13).start + made.got ≤ (area_at p (class_number c)).end)) (ap got_class library)
      (made_within kit inputs g gaps order p laid.origin laid.laid laid.small laid.base laid.sound whole heads (got_class kit.kind) 13 made.got 8
      (got_part kit inputs g gaps order p laid.origin laid.laid laid.small laid.base laid.sound whole heads) q l)

  pub dynamic_inside : (q : ℕ) → q < made.dynamic → ((area_at p 2).start ≤ (area_at p 14).start) × ((area_at p 14).start + made.dynamic ≤ (area_at p 2).end)
  dynamic_inside q l =
      made_within kit inputs g gaps order p laid.origin laid.laid laid.small laid.base laid.sound whole heads Rwdata 14 made.dynamic 8
      (dynamic_part kit inputs g gaps order p laid.origin laid.laid laid.small laid.base laid.sound whole heads) q l

  -- the dynamic section ends behind its entries
  pub dynamic_end : 0 < made.dynamic → (area_at p 14).end ≡ (area_at p 14).start + made.dynamic
  dynamic_end some =
      let from = up (class_end p Rodata) page in
      let ss = spreads kit g gaps order made Rwdata in
      let s = made_spread 14 made.dynamic 8 in
      let all = aligned-spreads kit g gaps order made (positive kit g gaps order made p laid.laid laid.small laid.base laid.sound whole) Rwdata in
      let i : In s ss = there (in_right (run_spreads kit g order Rwdata) (there (there (there (there (in_right (got_spread kit.kind made Rwdata) here)))))) in
      let f = found p (place_of p g) from ss 14 s laid.laid.rwdata.areas all i refl in
      let own = aligned-of s ss all i in
      let start = le-start (place_of p g) f.begin s.parts own f.stand in
      let stop = end-reach (place_of p g) f.begin s.parts f.stand in
      let last : (area_at p 2).end ≡ reach from (class_line kit g gaps order made Rwdata) = (four_classes kit g gaps order made p laid.laid laid.small laid.base laid.sound whole).rwdata_end in
      let bss_from = in_order_too.bss_from in let bss = in_order_too.bss in
      let both = area_is p 14 (start_of (place_of p g) f.begin s.parts) (end_of (place_of p g) f.begin s.parts) f.is (omega (arith, base))
      (omega (arith, base)) (omega (arith, start.1, stop)) (omega (arith, f.ends, last, bss_from, bss, is_top)) in
      let full : nat_eq made.dynamic 0 ≡ false = ne_eqb made.dynamic 0 (λ e. omega (arith, e, some)) in
      let is : end_of (place_of p g) f.begin s.parts ≡ (area_at p 14).start + made.dynamic = end_made (place_of p g) f.begin 14 made.dynamic 8 full in
      both.1 ∙ is

  -- what stands in the tables has numbers of 64 bits
  pub has_tables : 0 < made.tables
  has_tables =
      let past : 8 + 4 * (bucket_count g + symbol_count g) ≤ (tables_of kit g).symbols = le-up (8 + 4 * (bucket_count g + symbol_count g)) 8 (omega arith) in
      let more : (tables_of kit g).strings + strings_size kit g ≤ (tables_of kit g).relas = le-up ((tables_of kit g).strings + strings_size kit g) 8 (omega arith) in
      omega (arith, tables_size, past, more)

  pub tables_low : (area_at p 8).start + (tables_of kit g).stop ≤ SPAN_LIMIT
  tables_low =
      let w = tables_inside 0 has_tables in
      let o = in_order_too in
      omega (arith, w.1, tables_size, o.rwdata_from, o.rwdata, o.bss_from, o.bss, is_top)

  pub strings_low : (tables_of kit g).strings + strings_size kit g ≤ (tables_of kit g).relas
  strings_low = le-up ((tables_of kit g).strings + strings_size kit g) 8 (omega arith)

  value_small : (tag : ℕ) → tag_value kit g p tag < 2 ^ 64
  value_small tag =
      let low = tables_low in
      let strings = strings_low in
      pick (tag == 14) _ _ (omega (arith, low, strings))
      (pick (tag == 12) _ _ (area_small 4).0 (pick (tag == 13) _ _ (area_small 5).0
      (pick (tag == 25) _ _ (area_small 11).0 (pick (tag == 27) _ _ (size_small 11)
      (pick (tag == 26) _ _ (area_small 12).0 (pick (tag == 28) _ _ (size_small 12)
      (pick (tag == 4) _ _ (omega (arith, low)) (pick (tag == 5) _ _ (omega (arith, low, strings)) (pick (tag == 6) _ _ (omega (arith, low, strings))
      (pick (tag == 10) _ _ (omega (arith, low, strings)) (pick (tag == 11) _ _ (omega arith)
      (pick (tag == 7) _ _ (omega (arith, low)) (pick (tag == 8) _ _ (omega (arith, low)) (pick (tag == 9) _ _ (omega arith)
      (pick (tag == 23) _ _ (omega (arith, low)) (pick (tag == 2) _ _ (omega (arith, low)) (pick (tag == 20) _ _ (omega arith)
      (pick (tag == 3) _ _ (area_small 13).0 (pick (tag == 30) _ _ (omega arith) (omega arith))))))))))))))))))))
    where
      size_small : (n : ℕ) → area_size p n < 2 ^ 64
      size_small n = let w = area_small n in omega (arith, w.1)

  pub dynamic_small : All IsSmallDyn (dynamic_of kit g p)
  dynamic_small =
      All-append IsSmallDyn (needed_from (names_size g + soname_size kit) kit.needed) (map (λ tag. record { tag = tag; value = tag_value kit g p tag }) (tags kit g))
      (needed_small (names_size g + soname_size kit) kit.needed (omega (arith, tables_low, strings_low)))
      (All-map IsSmallDyn (λ tag. record { tag = tag; value = tag_value kit g p tag }) (tags kit g)
      (λ k d l. record { tag = low_all (tags kit g) (low_tags kit g) k d l; value = value_small (get_or (tags kit g) k d) }))
