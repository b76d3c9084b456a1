-- The dynamic symbols of a file read as those that were written, and so do their names.
use Rattle.std.proofs.Common.{ℕ, zero, suc, ◌≡◌, ◌+◌, ◌*◌, ◌^◌, ◌<◌, ◌∙◌, List, [], ◌∷◌, ◌++◌, length, get_or, drop, drop_of_length-le, refl, ap, sym, arith, length-append, inl, inr}
use Rattle.std.specs.Prelude.{◌≢◌, ◌==◌, All, Option, Some, None, flat_map, slice_index, slice_get}
use Rattle.std.specs.List.{before_first}
use Rattle.std.specs.Option.{option_map_or}
use Rattle.std.proofs.Math.Seq.{drop-cons}
use Rattle.std.proofs.lemmas.Bool.{cases_lt, ne_eqb}
use Rattle.std.proofs.lemmas.List.{get_or_past}
use Rattle.kl_base.specs.declared.class.Class.{Class}
use Rattle.kl_base.specs.declared.class.Class.TheVariants.{Text, Rodata, Rwdata, Bss}
use Rattle.kl_le.specs.Bytes.{num, text}
use Rattle.kl_elf.specs.Records.{sym_at}
use Rattle.kl_elf.specs.declared.records.Sym.{Sym}
use Rattle.kl_model.specs.Areas.{class_number}
use Rattle.kl_model.specs.Tables.{dyn_text, ended, no_dyn, section_number, sym_of, syms_from}
use Rattle.kl_model.specs.Written.{bytes_of, sym_bytes}
use Rattle.kl_model.specs.declared.graph.DynName.{DynName}
use Rattle.kl_model.specs.declared.graph.Graph.{Graph}
use Rattle.kl_model.specs.declared.graph.Piece.{Piece}
use Rattle.kl_model.specs.declared.graph.Target.{Target}
use Rattle.kl_model.specs.declared.graph.Target.TheVariants.{Place, Abs, Edge, Name, Zero, Gone}
use Rattle.kl_model.specs.declared.object.Input.{Input}
use Rattle.kl_model.specs.declared.place.Placement.{Placement}
use Rattle.kl_write.proofs.ReadHeaders.{HasAt, has_left, has_num, has_right, read_num, skip_num}
use Rattle.kl_loading.proofs.BeforeFirst.{before_pass}
use Rattle.kl_loading.proofs.Rows.{length-sym}
use Rattle.kl_loading.proofs.Strings.{text_place}

-- a symbol whose numbers fit
pub record IsSmallSym (y : Sym) : Type 0 where
  pub name : y.name < 256 ^ 4
  pub info : y.info < 256 ^ 1
  pub other : y.other < 256 ^ 1
  pub shndx : y.shndx < 256 ^ 2
  pub value : y.value < 256 ^ 8
  pub size : y.size < 256 ^ 8

abbrev s16 : Sym → List ℕ
s16 y = bytes_of 8 y.size

abbrev s8 : Sym → List ℕ
s8 y = bytes_of 8 y.value ++ s16 y

abbrev s6 : Sym → List ℕ
s6 y = bytes_of 2 y.shndx ++ s8 y

abbrev s5 : Sym → List ℕ
s5 y = bytes_of 1 y.other ++ s6 y

abbrev s4 : Sym → List ℕ
s4 y = bytes_of 1 y.info ++ s5 y

read_sym : (b : List ℕ) (at : ℕ) (y : Sym) → IsSmallSym y → HasAt b at (sym_bytes y) → sym_at b at ≡ y
read_sym b at y f h0 =
    let h4 : HasAt b (at + 4) (s4 y) = skip_num b at (at + 4) 4 y.name (s4 y) (omega arith) h0 in
    let h5 : HasAt b (at + 5) (s5 y) = skip_num b (at + 4) (at + 5) 1 y.info (s5 y) (omega arith) h4 in
    let h6 : HasAt b (at + 6) (s6 y) = skip_num b (at + 5) (at + 6) 1 y.other (s6 y) (omega arith) h5 in
    let h8 : HasAt b (at + 8) (s8 y) = skip_num b (at + 6) (at + 8) 2 y.shndx (s8 y) (omega arith) h6 in
    let h16 : HasAt b (at + 16) (s16 y) = skip_num b (at + 8) (at + 16) 8 y.value (s16 y) (omega arith) h8 in
    let r0 : num b at 4 ≡ y.name = read_num b at 4 y.name (s4 y) h0 f.name in
    let r4 : num b (at + 4) 1 ≡ y.info = read_num b (at + 4) 1 y.info (s5 y) h4 f.info in
    let r5 : num b (at + 5) 1 ≡ y.other = read_num b (at + 5) 1 y.other (s6 y) h5 f.other in
    let r6 : num b (at + 6) 2 ≡ y.shndx = read_num b (at + 6) 2 y.shndx (s8 y) h6 f.shndx in
    let r8 : num b (at + 8) 8 ≡ y.value = read_num b (at + 8) 8 y.value (s16 y) h8 f.value in
    let r16 : num b (at + 16) 8 ≡ y.size = has_num b (at + 16) 8 y.size h16 f.size in
    rw (r0, r4, r5, r6, r8, r16) refl

-- symbol k of symbols in a row
pub read_sym_at : (b : List ℕ) (at k : ℕ) (d : Sym) (ys : List Sym) → k < length ys → HasAt b at (flat_map sym_bytes ys) → IsSmallSym (get_or ys k d) → sym_at b (at + 24 * k) ≡ get_or ys k d
read_sym_at b at k d [] l h s = absurd (omega (arith, l))
read_sym_at b at zero d (y ∷ ys) l h s =
    let z : at + 24 * 0 ≡ at = omega arith in
    rw z (read_sym b at y s (has_left b at (sym_bytes y) (flat_map sym_bytes ys) h))
read_sym_at b at (suc k) d (y ∷ ys) l h s =
    let z : at + 24 * suc k ≡ at + 24 + 24 * k = omega arith in
    rw z (read_sym_at b (at + 24) k d ys (omega (arith, l)) (has_right b at (at + 24) (sym_bytes y) (flat_map sym_bytes ys) (omega (arith, length-sym y)) h) s)

-- the symbol of name n
pub sym_there : (p : Placement) (g : Graph) (at n : ℕ) (ds : List DynName) (d : Sym) → n < length ds → get_or (syms_from p g at ds) n d ≡ sym_of p g (text_place at n ds) (get_or ds n no_dyn)
sym_there p g at n [] d l = absurd (omega (arith, l))
sym_there p g at zero (e ∷ es) d l = refl
sym_there p g at (suc n) (e ∷ es) d l = sym_there p g (suc (at + e.name.len)) n es d (omega (arith, l))

class_small : (c : Class) → class_number c < 4
class_small Text = omega arith
class_small Rodata = omega arith
class_small Rwdata = omega arith
class_small Bss = omega arith

pub section_small : (g : Graph) (t : Option Target) → section_number g t < 256 ^ 2
section_small g None = omega arith
section_small g (Some (Place n k)) = go (slice_get g.pieces n)
  where
    go : (x : Option Piece) → suc (option_map_or (λ (x : Piece). class_number x.class) x 0) < 256 ^ 2
    go None = omega arith
    go (Some x) = omega (arith, class_small x.class)
section_small g (Some (Abs n)) = omega arith
section_small g (Some (Edge n e)) = omega arith
section_small g (Some (Name n)) = omega arith
section_small g (Some Zero) = omega arith
section_small g (Some Gone) = omega arith

-- the text before the zero byte that ends it
pub read_text : (b : List ℕ) (at : ℕ) (t : List ℕ) → All (λ c. c ≢ 0) t → HasAt b at (ended t) → text b at ≡ t
read_text b at [] h there =
    let zero_there : slice_index b at ≡ 0 = (let z : at + 0 ≡ at = omega arith in rw z at (there 0 (omega arith))) in
    elim (cases_lt at (length b)) [
      | inl l ↦ ap (before_first (λ c. c == 0)) (drop-cons b at 0 l ∙ ap (λ x. x ∷ drop (suc at) b) zero_there)
      | inr l ↦ ap (before_first (λ c. c == 0)) (drop_of_length-le b l)
    ]
read_text b at (c ∷ t) h there =
    let some : c ≢ 0 = h 0 c (omega arith) in
    let first : slice_index b at ≡ c = (let z : at + 0 ≡ at = omega arith in rw z at (there 0 (omega arith))) in
    let later : HasAt b (suc at) (ended t) = has_right b at (suc at) (c ∷ []) (ended t) (omega arith) there in
    let rest : text b (suc at) ≡ t = read_text b (suc at) t (λ k d l. h (suc k) d (omega (arith, l))) later in
    elim (cases_lt at (length b)) [
      | inl l ↦ (
          ap (before_first (λ c. c == 0)) (drop-cons b at 0 l ∙ ap (λ x. x ∷ drop (suc at) b) first)
          ∙ (before_pass (λ c. c == 0) c (drop (suc at) b) (ne_eqb c 0 some) ∙ ap (λ xs. c ∷ xs) rest)
          )
      | inr l ↦ absurd (some (sym first ∙ get_or_past b at 0 l))
    ]

-- the text of name n with its end
pub text_stands : (inputs : List Input) (b : List ℕ) (from at n : ℕ) (ds : List DynName) → All (λ d. length (dyn_text inputs d) ≡ d.name.len) ds → n < length ds
    → HasAt b (from + at) (flat_map (λ d. ended (dyn_text inputs d)) ds) → HasAt b (from + text_place at n ds) (ended (dyn_text inputs (get_or ds n no_dyn)))
text_stands inputs b from at n [] long l h = absurd (omega (arith, l))
text_stands inputs b from at zero (d ∷ ds) long l h = has_left b (from + at) (ended (dyn_text inputs d)) (flat_map (λ d. ended (dyn_text inputs d)) ds) h
text_stands inputs b from at (suc n) (d ∷ ds) long l h =
    let size : length (ended (dyn_text inputs d)) ≡ suc d.name.len = omega (arith, length-append (dyn_text inputs d) (0 ∷ []), long 0 d (omega arith)) in
    text_stands inputs b from (suc (at + d.name.len)) n ds (λ k e m. long (suc k) e (omega (arith, m))) (omega (arith, l))
    (has_right b (from + at) (from + suc (at + d.name.len)) (ended (dyn_text inputs d)) (flat_map (λ d. ended (dyn_text inputs d)) ds) (omega (arith, size)) h)
