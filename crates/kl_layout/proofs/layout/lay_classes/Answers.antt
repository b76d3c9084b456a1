use Rattle.std.proofs.Common.{◌≡◌, ◌+◌, ◌∙◌, length, ap, subst, arith, refl}
use Rattle.kl_base.specs.declared.class.Class.TheVariants.{Text, Rodata, Rwdata, Bss}
use Rattle.kl_model.specs.Laid.{reach}
use Rattle.kl_model.specs.Lists.{up}
use Rattle.kl_model.specs.Sizes.{page_of}
use Rattle.kl_layout.specs.Stops.{AreListed, HasStops, listed_from, listed_line}
use Rattle.kl_layout.proofs.ClassesLaid.{Others, OthersFrom, Own, OwnFrom, classes_are, extents_are, line_once, lines_room, stops}
use Rattle.kl_layout.proofs.LineParts.{step_small}
use Rattle.kl_layout.proofs.layout.lay_classes.Goals as goal

pub lay_class-requires-clause-once : goal.lay_class-requires-clause-once
lay_class-requires-clause-once c = line_once (listed_line c.args.kit.now c.args.lists.now) c.requires.once Text

pub lay_class-requires-clause-room : goal.lay_class-requires-clause-room
lay_class-requires-clause-room c =
    let all = lines_room (listed_line c.args.kit.now c.args.lists.now) in
    omega (arith, all, c.requires.room, c.text_place-from.ensures.small)

pub next_page-from-requires-clause-small : goal.next_page-from-requires-clause-small
next_page-from-requires-clause-small c =
    let all = lines_room (listed_line c.args.kit.now c.args.lists.now) in
    omega (arith, all, c.requires.room, c.text_place-from.ensures.small, c.in_ok-text.ensures.room)

pub lay_class-requires-2-clause-parts : goal.lay_class-requires-2-clause-parts
lay_class-requires-2-clause-parts c = rw c.in_ok-text.ensures.addresses_count (c.requires.parts Rodata)

pub lay_class-requires-2-clause-once : goal.lay_class-requires-2-clause-once
lay_class-requires-2-clause-once c = line_once (listed_line c.args.kit.now c.args.lists.now) c.requires.once Rodata

pub lay_class-requires-2-clause-room : goal.lay_class-requires-2-clause-room
lay_class-requires-2-clause-room c =
    let all = lines_room (listed_line c.args.kit.now c.args.lists.now) in
    let page = step_small c.page_of-page.result c.page_of-page.ensures.step in
    omega (arith, all, c.requires.room, page, c.text_place-from.ensures.small, c.in_ok-text.ensures.room, c.next_page-from.ensures.near)

pub next_page-from-requires-2-clause-small : goal.next_page-from-requires-2-clause-small
next_page-from-requires-2-clause-small c =
    let all = lines_room (listed_line c.args.kit.now c.args.lists.now) in
    let page = step_small c.page_of-page.result c.page_of-page.ensures.step in
    omega (arith, all, c.requires.room, page, c.text_place-from.ensures.small, c.in_ok-text.ensures.room, c.next_page-from.ensures.near, c.in_ok-rodata.ensures.room)

pub lay_class-requires-3-clause-parts : goal.lay_class-requires-3-clause-parts
lay_class-requires-3-clause-parts c = rw (c.in_ok-rodata.ensures.addresses_count, c.in_ok-text.ensures.addresses_count) (c.requires.parts Rwdata)

pub lay_class-requires-3-clause-once : goal.lay_class-requires-3-clause-once
lay_class-requires-3-clause-once c = line_once (listed_line c.args.kit.now c.args.lists.now) c.requires.once Rwdata

pub lay_class-requires-3-clause-room : goal.lay_class-requires-3-clause-room
lay_class-requires-3-clause-room c =
    let all = lines_room (listed_line c.args.kit.now c.args.lists.now) in
    let page = step_small c.page_of-page.result c.page_of-page.ensures.step in
    omega (
      arith,
      all,
      c.requires.room,
      page,
      c.text_place-from.ensures.small,
      c.in_ok-text.ensures.room,
      c.next_page-from.ensures.near,
      c.in_ok-rodata.ensures.room,
      c.next_page-from-2.ensures.near,
    )

pub next_page-from-requires-3-clause-small : goal.next_page-from-requires-3-clause-small
next_page-from-requires-3-clause-small c =
    let all = lines_room (listed_line c.args.kit.now c.args.lists.now) in
    let page = step_small c.page_of-page.result c.page_of-page.ensures.step in
    omega (
      arith,
      all,
      c.requires.room,
      page,
      c.text_place-from.ensures.small,
      c.in_ok-text.ensures.room,
      c.next_page-from.ensures.near,
      c.in_ok-rodata.ensures.room,
      c.next_page-from-2.ensures.near,
      c.in_ok-rwdata.ensures.room,
    )

pub lay_class-requires-4-clause-parts : goal.lay_class-requires-4-clause-parts
lay_class-requires-4-clause-parts c =
    rw (c.in_ok-rwdata.ensures.addresses_count, c.in_ok-rodata.ensures.addresses_count, c.in_ok-text.ensures.addresses_count) (c.requires.parts Bss)

pub lay_class-requires-4-clause-once : goal.lay_class-requires-4-clause-once
lay_class-requires-4-clause-once c = line_once (listed_line c.args.kit.now c.args.lists.now) c.requires.once Bss

pub lay_class-requires-4-clause-room : goal.lay_class-requires-4-clause-room
lay_class-requires-4-clause-room c =
    let all = lines_room (listed_line c.args.kit.now c.args.lists.now) in
    let page = step_small c.page_of-page.result c.page_of-page.ensures.step in
    omega (
      arith,
      all,
      c.requires.room,
      page,
      c.text_place-from.ensures.small,
      c.in_ok-text.ensures.room,
      c.next_page-from.ensures.near,
      c.in_ok-rodata.ensures.room,
      c.next_page-from-2.ensures.near,
      c.in_ok-rwdata.ensures.room,
      c.next_page-from-3.ensures.near,
    )

pub returns : goal.returns
returns c =
    let kit = c.args.kit.now in
    let g = c.args.graph.now in
    let lists = c.args.lists.now in
    let base = kit.base in
    let page : c.page_of-page.result ≡ page_of kit g = c.page_of-page.ensures.value in
    let L = listed_line kit lists in
    let F = listed_from kit g lists in
    let text : base + c.text_place-from.result ≡ F Text = c.text_place-from.ensures.value in
    let text_end : base + c.in_ok-text.text ≡ reach (F Text) (L Text) = c.in_ok-text.ensures.reach ∙ ap (λ f. reach f (L Text)) text in
    let rodata : base + c.next_page-from.result ≡ F Rodata =
    c.next_page-from.ensures.value ∙ (ap (λ e. up e c.page_of-page.result) text_end ∙ ap (up (reach (F Text) (L Text))) page) in
    let rodata_end : base + c.in_ok-rodata.rodata ≡ reach (F Rodata) (L Rodata) = c.in_ok-rodata.ensures.reach ∙ ap (λ f. reach f (L Rodata)) rodata in
    let rwdata : base + c.next_page-from-2.result ≡ F Rwdata =
    c.next_page-from-2.ensures.value ∙ (ap (λ e. up e c.page_of-page.result) rodata_end ∙ ap (up (reach (F Rodata) (L Rodata))) page) in
    let rwdata_end : base + c.in_ok-rwdata.rwdata ≡ reach (F Rwdata) (L Rwdata) = c.in_ok-rwdata.ensures.reach ∙ ap (λ f. reach f (L Rwdata)) rwdata in
    let bss : base + c.next_page-from-3.result ≡ F Bss =
    c.next_page-from-3.ensures.value ∙ (ap (λ e. up e c.page_of-page.result) rwdata_end ∙ ap (up (reach (F Rwdata) (L Rwdata))) page) in
    let bss_end : base + c.in_ok-end.end ≡ reach (F Bss) (L Bss) = c.in_ok-end.ensures.reach ∙ ap (λ f. reach f (L Bss)) bss in
    let a = c.args.addresses.now in
    let b = c.lay_class.new.addresses in
    let d = c.lay_class-2.new.addresses in
    let e = c.lay_class-3.new.addresses in
    let f = c.lay_class-4.new.addresses in
    let p = c.args.areas.now in
    let q = c.lay_class.new.areas in
    let r = c.lay_class-2.new.areas in
    let s = c.lay_class-3.new.areas in
    let t = c.lay_class-4.new.areas in
    let q_count : length q ≡ length p = c.in_ok-text.ensures.areas_count in
    let r_count : length r ≡ length p = c.in_ok-rodata.ensures.areas_count ∙ q_count in
    let s_count : length s ≡ length p = c.in_ok-rwdata.ensures.areas_count ∙ r_count in
    let b_count : length b ≡ length a = c.in_ok-text.ensures.addresses_count in
    let d_count : length d ≡ length a = c.in_ok-rodata.ensures.addresses_count ∙ b_count in
    let e_count : length e ≡ length a = c.in_ok-rwdata.ensures.addresses_count ∙ d_count in
    let f_count : length f ≡ length a = c.in_ok-end.ensures.addresses_count ∙ e_count in
    let text_stops : HasStops (F Text) (L Text) a b = subst (λ n. HasStops n (L Text) a b) text c.in_ok-text.ensures.stops in
    let rodata_stops : HasStops (F Rodata) (L Rodata) b d = subst (λ n. HasStops n (L Rodata) b d) rodata c.in_ok-rodata.ensures.stops in
    let rwdata_stops : HasStops (F Rwdata) (L Rwdata) d e = subst (λ n. HasStops n (L Rwdata) d e) rwdata c.in_ok-rwdata.ensures.stops in
    let bss_stops : HasStops (F Bss) (L Bss) e f = subst (λ n. HasStops n (L Bss) e f) bss c.in_ok-end.ensures.stops in
    let text_areas : Others kit g lists c.requires.once Text p q = subst (OthersFrom kit lists Text p q) text c.in_ok-text.ensures.areas in
    let rodata_areas : Others kit g lists c.requires.once Rodata q r = subst (OthersFrom kit lists Rodata q r) rodata c.in_ok-rodata.ensures.areas in
    let rwdata_areas : Others kit g lists c.requires.once Rwdata r s = subst (OthersFrom kit lists Rwdata r s) rwdata c.in_ok-rwdata.ensures.areas in
    let bss_areas : Others kit g lists c.requires.once Bss s t = subst (OthersFrom kit lists Bss s t) bss c.in_ok-end.ensures.areas in
    let text_own : Own kit g lists c.requires.once Text q = subst (OwnFrom kit lists Text q) text c.in_ok-text.ensures.class in
    let rodata_own : Own kit g lists c.requires.once Rodata r = subst (OwnFrom kit lists Rodata r) rodata c.in_ok-rodata.ensures.class in
    let rwdata_own : Own kit g lists c.requires.once Rwdata s = subst (OwnFrom kit lists Rwdata s) rwdata c.in_ok-rwdata.ensures.class in
    let bss_own : Own kit g lists c.requires.once Bss t = subst (OwnFrom kit lists Bss t) bss c.in_ok-end.ensures.class in
    let long : length p ≡ 15 + (length kit.runs + 1) = c.requires.areas ∙ c.requires.lists in
    let laid : AreListed kit g lists f t = record {
      stops = stops kit g lists c.requires.once a b d e f text_stops rodata_stops rwdata_stops bss_stops (length a) refl b_count d_count e_count f_count;
      extents = extents_are kit g lists c.requires.once p q r s t text_areas rodata_areas rwdata_areas bss_areas text_own rodata_own rwdata_own bss_own (length p) long refl q_count r_count s_count;
      classes = classes_are kit g lists c.requires.once p q r s t text_areas rodata_areas rwdata_areas bss_areas text_own rodata_own rwdata_own bss_own (length p) long refl q_count r_count s_count;
    } in
    record {
      addresses_count = f_count;
      areas_count = c.in_ok-end.ensures.areas_count ∙ s_count;
      reach = bss_end;
      laid = laid;
    }
