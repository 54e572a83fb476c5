-- The stamps are those of the list with the access.
use Rattle.std.proofs.Common.{◌≡◌, ℕ, ◌/◌, ◌≤◌, ◌^◌, ◌∙◌, ap, arith, sym, ◌∷◌, [], length-append}
use Rattle.access_filter.specs.Pages.{stamp_at}
use Rattle.access_filter.proofs.AnswerLaws.{finds-same, fit-same, stamps-kept, stamps-redundant}
use Rattle.access_filter.proofs.AnswerLaws.{stamps-same, new_at, place_is}
use Rattle.access_filter.specs.declared.stamp.Stamp.{Stamp}
use Rattle.access_filter.proofs.StampLaws.{fit-kept}
use Rattle.access_filter.proofs.filter.Filter.on_access.Goals as goal

pub returns-then-is_redundant-clause-stands : goal.returns-then-is_redundant-clause-stands
returns-then-is_redundant-clause-stands c = λ t stood.
    let f = c.args.self.now in
    let big : 2 ≤ f.near = omega (arith, f.ranged.0) in
    record {
      position = omega (arith, stood.position, length-append t (c.args.access ∷ []));
      stamps = stamps-redundant f.near f.position t c.args.access (stamp_at f.words.items)
          (stamp_at f.regions.items) big c.is_redundant.ensures.allowed.hart_in_range f.fit
          (sym c.is_redundant.ensures.value ∙ c.if-is_redundant.true) stood.stamps;
    }

pub invariant_of-self-in-Err-1 : goal.invariant_of-self-in-Err-1
invariant_of-self-in-Err-1 c =
    let f = c.args.self.now in
    record {
      ranged = f.ranged;
      fit = fit-same f.near f.position (stamp_at f.words.items) (stamp_at f.regions.items)
          (stamp_at c.make_room.new.words.items) (stamp_at c.make_room.new.regions.items)
          c.in-Err.ensures.words c.in-Err.ensures.regions f.fit;
    }

pub returns-in-Err-clause-still : goal.returns-in-Err-clause-still
returns-in-Err-clause-still c = λ t stood.
    let f = c.args.self.now in
    record {
      position = stood.position;
      stamps = stamps-same f.near t (stamp_at f.words.items) (stamp_at f.regions.items)
          (stamp_at c.make_room.new.words.items) (stamp_at c.make_room.new.regions.items)
          c.in-Err.ensures.words c.in-Err.ensures.regions stood.stamps;
    }

pub returns-in-Err-clause-known : goal.returns-in-Err-clause-known
returns-in-Err-clause-known c = λ t stood.
    let f = c.args.self.now in
    let word : c.from-word.result ≡ c.args.access.addr / 4 =
    omega (arith, c.from-word.ensures, c.addr.ensures) in
    let region : c.region_of-region.result ≡ c.args.access.addr / 2 ^ f.near =
    c.region_of-region.ensures.value ∙ ap (λ (x : ℕ). x / 2 ^ f.near) c.addr-2.ensures in
    new_at f.near c.from-word.result c.region_of-region.result t c.args.access
    (stamp_at f.words.items) (stamp_at f.regions.items) word region stood.stamps
    c.in-Err.ensures.blank

pub invariant_of-self-2 : goal.invariant_of-self-2
invariant_of-self-2 c =
    let f = c.args.self.now in
    let a = c.args.access in
    let big : 2 ≤ f.near = omega (arith, f.ranged.0) in
    let word : c.from-word.result ≡ a.addr / 4 =
    omega (arith, c.from-word.ensures, c.addr.ensures) in
    let region : c.region_of-region.result ≡ a.addr / 2 ^ f.near =
    c.region_of-region.ensures.value ∙ ap (λ (x : ℕ). x / 2 ^ f.near) c.addr-2.ensures in
    record {
      ranged = f.ranged;
      fit = fit-kept f.near f.position c.from-word.result c.region_of-region.result a
          (stamp_at c.make_room.new.words.items) (stamp_at c.make_room.new.regions.items)
          (stamp_at c.keep.new.words.items) (stamp_at c.keep.new.regions.items)
          c.is_redundant.ensures.allowed.hart_in_range
          (place_is f.near a.addr c.from-word.result c.region_of-region.result big word region)
          (fit-same f.near f.position (stamp_at f.words.items) (stamp_at f.regions.items)
          (stamp_at c.make_room.new.words.items) (stamp_at c.make_room.new.regions.items)
          c.in-Ok.ensures.words c.in-Ok.ensures.regions f.fit)
          c.keep.ensures;
    }

pub returns-clause-stands : goal.returns-clause-stands
returns-clause-stands c = λ t stood.
    let f = c.args.self.now in
    let a = c.args.access in
    let W : ℕ → Stamp = stamp_at c.make_room.new.words.items in
    let R : ℕ → Stamp = stamp_at c.make_room.new.regions.items in
    let big : 2 ≤ f.near = omega (arith, f.ranged.0) in
    let word : c.from-word.result ≡ a.addr / 4 =
    omega (arith, c.from-word.ensures, c.addr.ensures) in
    let region : c.region_of-region.result ≡ a.addr / 2 ^ f.near =
    c.region_of-region.ensures.value ∙ ap (λ (x : ℕ). x / 2 ^ f.near) c.addr-2.ensures in
    record {
      position = omega (arith, stood.position, length-append t (a ∷ []));
      stamps = stamps-kept f.near f.position c.from-word.result c.region_of-region.result t a W R
          (stamp_at c.keep.new.words.items) (stamp_at c.keep.new.regions.items) big
          c.is_redundant.ensures.allowed.hart_in_range region word
          (fit-same f.near f.position (stamp_at f.words.items) (stamp_at f.regions.items) W R
          c.in-Ok.ensures.words c.in-Ok.ensures.regions f.fit)
          c.keep.ensures
          (finds-same f.near (stamp_at f.words.items) (stamp_at f.regions.items) W R a
          c.in-Ok.ensures.words c.in-Ok.ensures.regions
          ∙ sym c.is_redundant.ensures.value ∙ c.if-is_redundant.false)
          (stamps-same f.near t (stamp_at f.words.items) (stamp_at f.regions.items) W R
          c.in-Ok.ensures.words c.in-Ok.ensures.regions stood.stamps);
    }
