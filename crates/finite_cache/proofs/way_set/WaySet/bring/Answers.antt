use Rattle.std.proofs.Common.{◌≡◌, ℕ, false, sym, ap, ◌∙◌, subst, take, None}
use Rattle.std.proofs.lemmas.Bool.{false≢true}
use Rattle.std.specs.Map.{keys_of}
use Rattle.std.specs.Prelude.{IfOk, OnOk, slice_get}
use Rattle.lru.specs.LruCache.{LruCache}
use Rattle.finite_cache.specs.Bounded.{has, in_front}
use Rattle.finite_cache.specs.CacheState.{WaySet}
use Rattle.finite_cache.specs.Laws.Ways.{both-on, found-has, known-left, known-used}
use Rattle.finite_cache.specs.Laws.Ways.{promoted-same, refused-on, ways_of}
use Rattle.finite_cache.proofs.way_set.WaySet.bring.Goals as goal

abbrev Table : Type 0
Table = LruCache ℕ (Unit {0})

abbrev shown : Table → WaySet
shown l = ways_of (keys_of l.entries) l.cap

pub returns-then-promote-clause-left : goal.returns-then-promote-clause-left
returns-then-promote-clause-left c =
    let found = sym c.promote.ensures.value ∙ c.if-promote.true in
    subst (λ (w : WaySet). None ≡ slice_get (in_front c.args.line w.lines) w.ways) c.self.view_is
    (known-left c.self.inside.lines c.args.line c.len-len.ensures.valid found)

pub returns-then-promote-clause-used : goal.returns-then-promote-clause-used
returns-then-promote-clause-used c =
    let found = sym c.promote.ensures.value ∙ c.if-promote.true in
    ap shown c.promote.ensures.entries
    ∙ ap (λ ks. ways_of ks c.self.inside.lines.cap)
    (known-used c.self.inside.lines c.args.line c.len-len.ensures.valid found)
    ∙ ap (λ (w : WaySet). ways_of (take w.ways (in_front c.args.line w.lines)) w.ways)
    c.self.view_is

pub push_new-requires-clause-new : goal.push_new-requires-clause-new
push_new-requires-clause-new c =
    let none = sym c.promote.ensures.value ∙ c.if-promote.false in
    let same = promoted-same c.self.inside.lines c.promote.new.self c.args.line none
    c.promote.ensures.entries in
    subst (λ (l : Table). has c.args.line (keys_of l.entries) ≡ false) (sym same)
    (sym (found-has c.args.line c.self.inside.lines.entries) ∙ none)

pub returns-clause-left : goal.returns-clause-left
returns-clause-left c =
    let none = sym c.promote.ensures.value ∙ c.if-promote.false in
    let same = promoted-same c.self.inside.lines c.promote.new.self c.args.line none
    c.promote.ensures.entries in
    subst (λ (w : WaySet). IfOk c.push_new.result (λ left.
    left ≡ slice_get (in_front c.args.line w.lines) w.ways)) (ap shown same ∙ c.self.view_is)
    c.push_new.ensures.left

pub returns-clause-used : goal.returns-clause-used
returns-clause-used c =
    let none = sym c.promote.ensures.value ∙ c.if-promote.false in
    let same = promoted-same c.self.inside.lines c.promote.new.self c.args.line none
    c.promote.ensures.entries in
    subst (λ (w : WaySet). OnOk c.push_new.result (shown c.push_new.new.lines
    ≡ ways_of (take w.ways (in_front c.args.line w.lines)) w.ways))
    (ap shown same ∙ c.self.view_is)
    (both-on c.push_new.result (keys_of c.push_new.new.lines.entries)
    (take c.promote.new.self.cap (in_front c.args.line (keys_of c.promote.new.self.entries)))
    c.push_new.new.lines.cap c.promote.new.self.cap c.push_new.ensures.pushed
    c.push_new.ensures.room)

pub returns-clause-refused : goal.returns-clause-refused
returns-clause-refused c =
    let none = sym c.promote.ensures.value ∙ c.if-promote.false in
    let same = promoted-same c.self.inside.lines c.promote.new.self c.args.line none
    c.promote.ensures.entries in
    refused-on c.push_new.result shown c.push_new.new.lines c.promote.new.self c.args.self.now
    c.push_new.ensures.refused (ap shown same ∙ c.self.view_is)

pub returns-clause-known : goal.returns-clause-known
returns-clause-known c =
    let none = sym (found-has c.args.line c.self.inside.lines.entries)
    ∙ sym c.promote.ensures.value ∙ c.if-promote.false in
    let gone : has c.args.line c.args.self.now.lines ≡ false =
    subst (λ (w : WaySet). has c.args.line w.lines ≡ false) c.self.view_is none in
    λ there. absurd (false≢true (sym gone ∙ there))
