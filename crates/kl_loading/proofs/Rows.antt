-- Records that stand in a file one after another read as those records.
use Rattle.std.proofs.Common.{ℕ, zero, suc, ◌≡◌, ◌+◌, ◌*◌, ◌^◌, ◌<◌, ◌∙◌, List, [], ◌∷◌, ◌++◌, length, get_or, refl, ap, sym, arith, length-append, Bool, true, false, cond}
use Rattle.std.specs.Prelude.{All, flat_map, ◌==◌}
use Rattle.std.specs.List.{before_first}
use Rattle.std.specs.Int.{cast_signed, cast_unsigned, w64}
use Rattle.kl_le.specs.Bytes.{num}
use Rattle.kl_elf.specs.Records.{dyn_at, rela_at}
use Rattle.kl_elf.specs.declared.abi.TheConstants.{DT_NULL}
use Rattle.kl_elf.specs.declared.records.Dyn.{Dyn}
use Rattle.kl_elf.specs.declared.records.Rela.{Rela}
use Rattle.kl_elf.specs.declared.records.Sym.{Sym}
use Rattle.kl_model.specs.Loaded.{dyns_from, relas_from}
use Rattle.kl_model.specs.Written.{bytes_of, dyn_bytes, rela_bytes, sym_bytes}
use Rattle.kl_loading.proofs.BeforeFirst.{before_pass, before_stop}
use Rattle.kl_write.proofs.ReadHeaders.{HasAt, has_left, has_num, has_right, read_num, skip_num}

-- an entry of the dynamic section
pub record IsSmallDyn (d : Dyn) : Type 0 where
  pub tag : d.tag < 256 ^ 8
  pub value : d.value < 256 ^ 8

pub length-dyn : (d : Dyn) → length (dyn_bytes d) ≡ 16
length-dyn d = refl

read_dyn : (b : List ℕ) (at : ℕ) (d : Dyn) → IsSmallDyn d → HasAt b at (dyn_bytes d) → dyn_at b at ≡ d
read_dyn b at d f h =
    let next : HasAt b (at + 8) (bytes_of 8 d.value) = skip_num b at (at + 8) 8 d.tag (bytes_of 8 d.value) refl h in
    let tag : num b at 8 ≡ d.tag = read_num b at 8 d.tag (bytes_of 8 d.value) h f.tag in
    let value : num b (at + 8) 8 ≡ d.value = has_num b (at + 8) 8 d.value next f.value in
    rw (tag, value) refl

-- entries up to the first DT_NULL
pub read_dyns : (b : List ℕ) (at : ℕ) (ds : List Dyn) → All IsSmallDyn ds → HasAt b at (flat_map dyn_bytes ds)
    → dyns_from b at (length ds) ≡ before_first (λ d. d.tag == DT_NULL) ds
read_dyns b at [] f h = refl
read_dyns b at (d ∷ ds) f h =
    let first : dyn_at b at ≡ d = read_dyn b at d (f 0 d (omega arith)) (has_left b at (dyn_bytes d) (flat_map dyn_bytes ds) h) in
    let rest : dyns_from b (at + 16) (length ds) ≡ before_first (λ d. d.tag == DT_NULL) ds = read_dyns b (at + 16) ds (λ k e l. f (suc k) e (omega (arith, l)))
    (has_right b at (at + 16) (dyn_bytes d) (flat_map dyn_bytes ds) (omega (arith, length-dyn d)) h) in
    let step : dyns_from b at (suc (length ds)) ≡ cond (d.tag == DT_NULL) [] (d ∷ before_first (λ d. d.tag == DT_NULL) ds) =
    ap (λ x. cond (x.tag == DT_NULL) [] (x ∷ dyns_from b (at + 16) (length ds))) first ∙ ap (λ xs. cond (d.tag == DT_NULL) [] (d ∷ xs)) rest in
    step ∙ stops (d.tag == DT_NULL) refl
  where
    stops : (e : Bool) → (d.tag == DT_NULL) ≡ e → cond e [] (d ∷ before_first (λ d. d.tag == DT_NULL) ds) ≡ before_first (λ d. d.tag == DT_NULL) (d ∷ ds)
    stops true e = sym (before_stop (λ d. d.tag == DT_NULL) d ds e)
    stops false e = sym (before_pass (λ d. d.tag == DT_NULL) d ds e)

-- a relocation entry
pub record IsSmallRela (r : Rela) : Type 0 where
  pub offset : r.offset < 256 ^ 8
  pub info : r.info < 256 ^ 8
  pub addend : cast_signed w64 (cast_unsigned w64 r.addend) ≡ r.addend
  pub small : cast_unsigned w64 r.addend < 256 ^ 8

pub length-rela : (r : Rela) → length (rela_bytes r) ≡ 24
length-rela r = refl

abbrev r16 : Rela → List ℕ
r16 r = bytes_of 8 (cast_unsigned w64 r.addend)

abbrev r8 : Rela → List ℕ
r8 r = bytes_of 8 r.info ++ r16 r

read_rela : (b : List ℕ) (at : ℕ) (r : Rela) → IsSmallRela r → HasAt b at (rela_bytes r) → rela_at b at ≡ r
read_rela b at r f h0 =
    let h8 : HasAt b (at + 8) (r8 r) = skip_num b at (at + 8) 8 r.offset (r8 r) refl h0 in
    let h16 : HasAt b (at + 16) (r16 r) = skip_num b (at + 8) (at + 16) 8 r.info (r16 r) (omega arith) h8 in
    let offset : num b at 8 ≡ r.offset = read_num b at 8 r.offset (r8 r) h0 f.offset in
    let info : num b (at + 8) 8 ≡ r.info = read_num b (at + 8) 8 r.info (r16 r) h8 f.info in
    let number : num b (at + 16) 8 ≡ cast_unsigned w64 r.addend = has_num b (at + 16) 8 (cast_unsigned w64 r.addend) h16 f.small in
    let addend : cast_signed w64 (num b (at + 16) 8) ≡ r.addend = ap (cast_signed w64) number ∙ f.addend in
    rw (offset, info, addend) refl

pub read_relas : (b : List ℕ) (at : ℕ) (rs : List Rela) → All IsSmallRela rs → HasAt b at (flat_map rela_bytes rs) → relas_from b at (length rs) ≡ rs
read_relas b at [] f h = refl
read_relas b at (r ∷ rs) f h =
    let first = read_rela b at r (f 0 r (omega arith)) (has_left b at (rela_bytes r) (flat_map rela_bytes rs) h) in
    let rest = read_relas b (at + 24) rs (λ k d l. f (suc k) d (omega (arith, l)))
    (has_right b at (at + 24) (rela_bytes r) (flat_map rela_bytes rs) (omega (arith, length-rela r)) h) in
    rw (first, rest) refl

-- where the name of a symbol stands in the strings
pub length-sym : (y : Sym) → length (sym_bytes y) ≡ 24
length-sym y = refl

pub read_name : (b : List ℕ) (at k : ℕ) (d : Sym) (ys : List Sym) → k < length ys → HasAt b at (flat_map sym_bytes ys) → (get_or ys k d).name < 256 ^ 4
    → num b (at + 24 * k) 4 ≡ (get_or ys k d).name
read_name b at k d [] l h s = absurd (omega (arith, l))
read_name b at zero d (y ∷ ys) l h s =
    let z : at + 24 * 0 ≡ at = omega arith in
    let first : HasAt b at (sym_bytes y) = has_left b at (sym_bytes y) (flat_map sym_bytes ys) h in
    rw z (has_num b at 4 y.name (has_left b at (bytes_of 4 y.name) (bytes_of 1 y.info ++ (bytes_of 1 y.other ++ (bytes_of 2 y.shndx ++ (bytes_of 8 y.value ++ bytes_of 8 y.size)))) first) s)
read_name b at (suc k) d (y ∷ ys) l h s =
    let z : at + 24 * suc k ≡ at + 24 + 24 * k = omega arith in
    rw z (read_name b (at + 24) k d ys (omega (arith, l)) (has_right b at (at + 24) (sym_bytes y) (flat_map sym_bytes ys) (omega (arith, length-sym y)) h) s)

-- as many bytes as records of one size have
pub length-rows : {X : Type 0} (f : X → List ℕ) (n : ℕ) (xs : List X) → ((x : X) → length (f x) ≡ n) → length (flat_map f xs) ≡ n * length xs
length-rows f n [] e = omega arith
length-rows f n (x ∷ xs) e =
    let more : n * suc (length xs) ≡ n + n * length xs = omega arith in
    rw more (length-append (f x) (flat_map f xs) ∙ omega (arith, e x, length-rows f n xs e))
