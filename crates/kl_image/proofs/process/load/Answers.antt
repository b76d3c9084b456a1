use Rattle.std.proofs.Common.{ℕ, ◌≡◌, ◌||◌, true, not, List, eq-eqb, ne_eqb}
use Rattle.std.specs.Prelude.{◌==◌}
use Rattle.std.specs.List.{list_all}
use Rattle.std.proofs.lemmas.Bool.{and_parts}
use Rattle.kl_elf.specs.declared.records.Ehdr.{Ehdr}
use Rattle.kl_elf.specs.declared.records.Phdr.{Phdr}
use Rattle.kl_elf.specs.declared.abi.TheConstants.{ET_DYN, ET_EXEC}
use Rattle.kl_model.specs.Loaded.{moved}
use Rattle.kl_image.specs.Bases.{can_move, is_base}
use Rattle.kl_image.specs.Resolvers.{number_of}
use Rattle.kl_image.proofs.Loads.{apart}
use Rattle.kl_image.proofs.Whole.{headers_right}
use Rattle.kl_image.proofs.WrittenBytes.{fixed_loaded, nothing_written, shared_loaded}
use Rattle.kl_image.proofs.process.load.Goals as goal
use Rattle.kl_image.proofs.process.load.Goals.{then-view-eq-ET_DYN+in_ok-carry_out_entries, else-view-eq-ET_DYN}

-- at a base its memory can be moved there
moves : (head : Ehdr) (headers : List Phdr) (base : ℕ) → is_base head headers base ≡ true → list_all (can_move base) headers ≡ true
moves head headers base is = (and_parts (not (head.kind == ET_EXEC) || (base == 0)) (list_all (can_move base) headers) is).1

pub new-requires : goal.new-requires
new-requires g c = rw (c.items-headers.ensures, c.requires.segments) (apart c.args.bytes.now (headers_right c.args.bytes.now c.requires.sound))

pub carry_out_entries-requires-clause-placed : goal.carry_out_entries-requires-clause-placed
carry_out_entries-requires-clause-placed g c = record {
  sound = headers_right c.args.bytes.now c.requires.sound;
  cover = rw (c.items-headers.ensures, c.requires.segments) at c.in_ok-new.ensures;
  room = rw c.requires.segments at (moves c.args.view.now.head c.args.view.now.segments c.args.base c.requires.base);
}

pub invariant_of-result : goal.invariant_of-result
invariant_of-result g c = record {
  placed = record {
    sound = headers_right c.args.bytes.now c.requires.sound;
    cover = rw (c.items-headers.ensures, c.requires.segments) at c.in_ok-new.ensures;
    room = rw c.requires.segments at (moves c.args.view.now.head c.args.view.now.segments c.args.base c.requires.base);
  };
}

pub returns : goal.returns
returns g c = λ a.
    let b = c.args.bytes.now in
    let base = c.args.base in
    let r = number_of (g.R.Resolver.numbers c.args.names.now) in
    elim c.if-view-eq-ET_DYN.branch [
      | then-view-eq-ET_DYN+in_ok-carry_out_entries w ↦
          let shared = rw c.requires.head at (eq-eqb c.args.view.now.head.kind ET_DYN w.if-view-eq-ET_DYN.true) in
          let done = w.in_ok-carry_out_entries.ensures (moved b base) (nothing_written c.new-written.result c.new-written.ensures.empty (moved b base)) in
          rw w.written-is (shared_loaded b base r w.carry_out_entries.new.written shared done a)
      | else-view-eq-ET_DYN w ↦
          let fixed = rw c.requires.head at (ne_eqb c.args.view.now.head.kind ET_DYN w.if-view-eq-ET_DYN.false) in
          rw w.written-is (fixed_loaded b base r c.new-written.result fixed c.new-written.ensures.empty a)
    ]
