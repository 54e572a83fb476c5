use Rattle.std.proofs.Common.{◌≡◌, ◌+◌, ◌-◌, ◌≤◌, ◌<◌, ◌++◌, ℕ, List, [], Some, length, take, refl}
use Rattle.std.proofs.Common.{sym, ap, subst, ◌∙◌, arith}
use Rattle.shelf.specs.Shelf.{Known, content}
use Rattle.shelf.specs.Fetch.{IsFront}
use Rattle.shelf.specs.Laws.Agreeing.{front_shows, shown_then}
use Rattle.shelf.specs.Laws.Known.{known_both}
use Rattle.trace_format.specs.Reading.{reading_of}
use Rattle.trace_format.specs.Rules.{longest_trace}
use Rattle.trace_passes.specs.declared.wanted.Refusal.TheVariants as refusals
use Rattle.trace_passes.specs.Cursors.{HasCome, HasEnded, IsRead, Reached, StopsAtMagic, StopsIn}
use Rattle.trace_passes.specs.Passes.{refusal_of}
use Rattle.trace_passes.proofs.Fronts.{at_most, come_still, falls, given_back, longer_front}
use Rattle.trace_passes.proofs.Fronts.{next_come}
use Rattle.trace_passes.proofs.Fronts.{refused_file, stops_there, whole_front}
use Rattle.trace_passes.proofs.Closings.{ended, refused_bytes, refused_end}
use Rattle.trace_passes.proofs.Shown.{read_more, read_none}
use Rattle.trace_passes.proofs.Stopping.{stopped_end, stopped_piece}
use Rattle.trace_passes.proofs.cursor.Cursor.advance.Goals as goal

pub returns-then-count-eq0-clause-ended : goal.returns-then-count-eq0-clause-ended
returns-then-count-eq0-clause-ended g c = λ passed same bytes reached.
    let held = (g.S.Shelf.outside c.fetch.new.shelf).held in
    let came = subst (HasCome (g.S.Shelf.outside c.args.shelf.now).held c.args.name.now
    c.args.wanted.now bytes) (sym c.self.view_is)
    reached in
    let come = come_still _ held _ _ _ _ c.in_ok-count.ensures.only.held came in
    let into = c.fetch.new.piece in
    let size : length c.self.inside.piece.items ≡ c.self.inside.piece.len = omega arith in
    let some : 0 < length into = omega (arith, c.deref_mut.ensures.len, size, come.room) in
    let none : c.in_ok-count.count ≡ 0 = c.if-count-eq0.true in
    let name = c.args.name.now in
    let w = c.args.wanted.now in
    let at = c.self.inside.at in
    let count = c.in_ok-count.count in
    let whole : Known held (λ files. bytes ≡ content files name) =
    known_both held (λ files. whole_front (content files name) bytes into at count come.size none
    some) come.front
    c.in_ok-count.ensures.bytes in
    let is : c.in_ok-end_of.field-0 ≡ passed = cc in
    subst (HasEnded held name w bytes) is
    (ended held name w c.self.inside.reader bytes come.read whole c.in_ok-end_of.field-0
    c.in_ok-end_of.ensures.ending
    c.in_ok-end_of.ensures.progress)

pub returns-in_err-end_of-clause-refused : goal.returns-in_err-end_of-clause-refused
returns-in_err-end_of-clause-refused g c = λ refusal same.
    let held = (g.S.Shelf.outside c.fetch.new.shelf).held in
    let bytes = c.requires.0 in
    let came = subst (HasCome (g.S.Shelf.outside c.args.shelf.now).held c.args.name.now
    c.args.wanted.now bytes) (sym c.self.view_is) c.requires.1 in
    let come = come_still _ held _ _ _ _ c.in_ok-count.ensures.only.held came in
    let into = c.fetch.new.piece in
    let size : length c.self.inside.piece.items ≡ c.self.inside.piece.len = omega arith in
    let some : 0 < length into = omega (arith, c.deref_mut.ensures.len, size, come.room) in
    let none : c.in_ok-count.count ≡ 0 = c.if-count-eq0.true in
    let name = c.args.name.now in
    let whole : Known held (λ files. bytes ≡ content files name) =
    known_both held (λ files. whole_front (content files name) bytes into c.self.inside.at
    c.in_ok-count.count come.size none some) come.front c.in_ok-count.ensures.bytes in
    let was_err = c.in_err-end_of.was in
    let handed_on = rw same at c.from_residual-in_err-end_of.ensures.1 in
    refused_end held name c.args.wanted.now c.self.inside.reader bytes come.read whole refusal
    (c.end_of.ensures.refused refusal (cc))

pub returns-in_err-take_piece-clause-refused : goal.returns-in_err-take_piece-clause-refused
returns-in_err-take_piece-clause-refused g c = λ refusal same.
    let into = c.fetch.new.piece in
    let was = c.self.inside.piece.items in
    let lent : length into ≡ c.self.inside.piece.len = omega (arith, c.deref_mut.ensures.len) in
    let size : length was ≡ c.self.inside.piece.len = omega arith in
    let back = given_back c.self.inside.piece.len into was lent size in
    let bytes = c.requires.0 in
    let held = (g.S.Shelf.outside c.fetch.new.shelf).held in
    let name = c.args.name.now in
    let came = subst (HasCome (g.S.Shelf.outside c.args.shelf.now).held name c.args.wanted.now
    bytes) (sym c.self.view_is) c.requires.1 in
    let come = come_still _ held _ _ _ _ c.in_ok-count.ensures.only.held came in
    let at = c.self.inside.at in
    let count = c.in_ok-count.count in
    let fits : count ≤ length into = omega (arith, c.in_ok-count.ensures.bound) in
    let front : Known held (λ files. IsFront (content files name) (bytes ++ take count into)) =
    known_both held (λ files. longer_front (content files name) bytes into at count come.size fits)
    come.front c.in_ok-count.ensures.bytes in
    let was_err = c.in_err-take_piece.was in
    let handed_on = rw same at c.from_residual-in_err-take_piece.ensures.1 in
    let w = c.args.wanted.now in
    let stops : StopsAtMagic w bytes (take count into) =
    stops_there w bytes into at count come.size fits come.read.sited
    (c.in_ok-count.ensures.magic) in
    let refused : (more : List ℕ) → refusal_of w ((bytes ++ take count into) ++ more)
    ≡ Some refusal =
    λ more. subst (λ (xs : List ℕ). StopsAtMagic w bytes (take count xs)
    → refusal_of w ((bytes ++ take count xs) ++ more) ≡ Some refusal)
    (c.deref.ensures.value ∙ back) (c.take_piece.ensures.refused refusal
    (cc) bytes more come.read.reading) stops in
    refused_file held name (bytes ++ take count into) w refusal front refused

pub returns-then-count-eq0-clause-shown : goal.returns-then-count-eq0-clause-shown
returns-then-count-eq0-clause-shown g c = λ passed same bytes reached before.
    let came = subst (HasCome (g.S.Shelf.outside c.args.shelf.now).held c.args.name.now
    c.args.wanted.now bytes) (sym c.self.view_is) reached in
    read_none c.args.name.now bytes c.fetch.new.piece c.self.inside.at c.in_ok-count.count before
    (g.S.Shelf.outside c.args.shelf.now).given (g.S.Shelf.outside c.fetch.new.shelf).given
    came.size c.if-count-eq0.true c.in_ok-count.ensures.given

pub returns-in_err-end_of-clause-shown_refused : goal.returns-in_err-end_of-clause-shown_refused
returns-in_err-end_of-clause-shown_refused g c = λ refusal same bytes reached before front.
    let came = subst (HasCome (g.S.Shelf.outside c.args.shelf.now).held c.args.name.now
    c.args.wanted.now bytes) (sym c.self.view_is) reached in
    let w = c.args.wanted.now in
    let was_err = c.in_err-end_of.was in
    let handed_on = rw same at c.from_residual-in_err-end_of.ensures.1 in
    let refused = refused_bytes w c.self.inside.reader bytes came.read refusal
    (c.end_of.ensures.refused refusal (cc)) in
    shown_then c.args.name.now (λ file. bytes ≡ file) (λ file. refusal_of w file ≡ Some refusal)
    before (g.S.Shelf.outside c.fetch.new.shelf).given
    (λ file is. ap (refusal_of w) (sym is) ∙ refused)
    (read_none c.args.name.now bytes c.fetch.new.piece c.self.inside.at c.in_ok-count.count before
    (g.S.Shelf.outside c.args.shelf.now).given (g.S.Shelf.outside c.fetch.new.shelf).given
    came.size c.if-count-eq0.true c.in_ok-count.ensures.given front)

pub returns-in_err-take_piece-clause-shown_refused : goal.returns-in_err-take_piece-clause-shown_refused
returns-in_err-take_piece-clause-shown_refused g c = λ refusal same bytes reached before front.
    let into = c.fetch.new.piece in
    let was = c.self.inside.piece.items in
    let lent : length into ≡ c.self.inside.piece.len = omega (arith, c.deref_mut.ensures.len) in
    let size : length was ≡ c.self.inside.piece.len = omega arith in
    let back = given_back c.self.inside.piece.len into was lent size in
    let name = c.args.name.now in
    let came = subst (HasCome (g.S.Shelf.outside c.args.shelf.now).held name c.args.wanted.now
    bytes) (sym c.self.view_is) reached in
    let at = c.self.inside.at in
    let count = c.in_ok-count.count in
    let fits : count ≤ length into = omega (arith, c.in_ok-count.ensures.bound) in
    let was_err = c.in_err-take_piece.was in
    let handed_on = rw same at c.from_residual-in_err-take_piece.ensures.1 in
    let w = c.args.wanted.now in
    let stops : StopsAtMagic w bytes (take count into) =
    stops_there w bytes into at count came.size fits came.read.sited
    (c.in_ok-count.ensures.magic) in
    let new = (g.S.Shelf.outside c.fetch.new.shelf).given in
    front_shows name (bytes ++ take count into) (λ file. refusal_of w file ≡ Some refusal) before
    new
    (λ more. subst (λ (xs : List ℕ). StopsAtMagic w bytes (take count xs)
    → refusal_of w ((bytes ++ take count xs) ++ more) ≡ Some refusal)
    (c.deref.ensures.value ∙ back) (c.take_piece.ensures.refused refusal
    (cc) bytes more came.read.reading) stops)
    (read_more name bytes into at count before (g.S.Shelf.outside c.args.shelf.now).given new
    came.size fits c.if-count-eq0.false c.in_ok-count.ensures.given front)

pub returns-in_err-take_piece-clause-found : goal.returns-in_err-take_piece-clause-found
returns-in_err-take_piece-clause-found g c = λ refusal same.
    let bytes = c.requires.0 in
    let come = subst (HasCome (g.S.Shelf.outside c.args.shelf.now).held c.args.name.now
    c.args.wanted.now bytes) (sym c.self.view_is) c.requires.1 in
    let into = c.fetch.new.piece in
    let was = c.self.inside.piece.items in
    let lent : length into ≡ c.self.inside.piece.len = omega (arith, c.deref_mut.ensures.len) in
    let size : length was ≡ c.self.inside.piece.len = omega arith in
    let back = given_back c.self.inside.piece.len into was lent size in
    let count = c.in_ok-count.count in
    let fits : count ≤ length into = omega (arith, c.in_ok-count.ensures.bound) in
    let w = c.args.wanted.now in
    let was_err = c.in_err-take_piece.was in
    let handed_on = rw same at c.from_residual-in_err-take_piece.ensures.1 in
    let stops : StopsAtMagic w bytes (take count into) =
    stops_there w bytes into c.self.inside.at count come.size fits come.read.sited
    (c.in_ok-count.ensures.magic) in (
      (bytes ++ take count into) ++ [],
      subst (λ (xs : List ℕ). StopsAtMagic w bytes (take count xs)
          → refusal_of w ((bytes ++ take count xs) ++ []) ≡ Some refusal)
          (c.deref.ensures.value ∙ back) (c.take_piece.ensures.refused refusal
          (cc) bytes [] come.read.reading) stops,
    )

pub returns-clause-more : goal.returns-clause-more
returns-clause-more g c = λ same bytes reached.
    let held = (g.S.Shelf.outside c.fetch.new.shelf).held in
    let came = subst (HasCome (g.S.Shelf.outside c.args.shelf.now).held c.args.name.now
    c.args.wanted.now bytes) (sym c.self.view_is)
    reached in
    let come = come_still _ held _ _ _ _ c.in_ok-count.ensures.only.held came in
    let into = c.fetch.new.piece in
    let was = c.self.inside.piece.items in
    let lent : length into ≡ c.self.inside.piece.len = omega (arith, c.deref_mut.ensures.len) in
    let size : length was ≡ c.self.inside.piece.len = omega arith in
    let back = given_back c.self.inside.piece.len into was lent size in
    let count = c.in_ok-count.count in
    let w = c.args.wanted.now in
    let new = c.take_piece.new.reader in
    let items = c.take_piece.new.items.items in
    let read : IsRead w (bytes ++ take count into) new =
    subst (λ (xs : List ℕ). IsRead w (bytes ++ take count xs) new) (c.deref.ensures.value ∙ back)
    (c.in_ok-take_piece.ensures.read bytes come.read.reading) in
    let records : (reading_of (bytes ++ take count into)).0 ≡ (reading_of bytes).0 ++ items =
    subst (λ (xs : List ℕ). (reading_of (bytes ++ take count xs)).0 ≡ (reading_of bytes).0 ++ items)
    (c.deref.ensures.value ∙ back)
    (c.in_ok-take_piece.ensures.records bytes come.read.reading) in
    record {
      more = take count into;
      come = next_come held c.args.name.now w bytes into c.self.inside.at count _ come.size
          (omega (arith, c.in_ok-count.ensures.bound)) come.front c.in_ok-count.ensures.bytes read
          refl
          (omega (arith, ap length back, lent, size, come.room))
          (omega (arith, ap length back, lent, size, come.few));
      records = records;
      front = λ before. read_more c.args.name.now bytes into c.self.inside.at count before
          (g.S.Shelf.outside c.args.shelf.now).given (g.S.Shelf.outside c.fetch.new.shelf).given
          come.size (omega (arith, c.in_ok-count.ensures.bound)) c.if-count-eq0.false
          c.in_ok-count.ensures.given;
    }

pub overflow_add-self : goal.overflow_add-self
overflow_add-self g c =
    let held = (g.S.Shelf.outside c.args.shelf.now).held in
    let low = at_most held c.args.name.now c.args.wanted.now c.requires.0 c.args.self.now
    c.requires.1 in
    let at = ap (λ (r : Reached). r.count) c.self.view_is in
    let small : c.in_ok-count.count ≤ c.self.inside.piece.len =
    omega (arith, c.in_ok-count.ensures.bound, c.deref_mut.ensures.len) in
    omega arith

pub returns-clause-fewer : goal.returns-clause-fewer
returns-clause-fewer g c = λ same.
    let held = (g.S.Shelf.outside c.fetch.new.shelf).held in
    let on = returns-clause-more g c same c.requires.0 c.requires.1 in
    let low = at_most held c.args.name.now c.args.wanted.now _ _ on.come in
    subst (λ (n : ℕ). longest_trace - (c.self.inside.at + c.in_ok-count.count) < longest_trace - n)
    (ap (λ (r : Reached). r.count) c.self.view_is)
    (falls c.self.inside.at c.in_ok-count.count c.if-count-eq0.false low)

pub returns-in_err-end_of-clause-stopped : goal.returns-in_err-end_of-clause-stopped
returns-in_err-end_of-clause-stopped g c = λ fault same bytes reached.
    let held = (g.S.Shelf.outside c.fetch.new.shelf).held in
    let came = subst (HasCome (g.S.Shelf.outside c.args.shelf.now).held c.args.name.now
    c.args.wanted.now bytes) (sym c.self.view_is) reached in
    let come = come_still _ held _ _ _ _ c.in_ok-count.ensures.only.held came in
    let into = c.fetch.new.piece in
    let size : length c.self.inside.piece.items ≡ c.self.inside.piece.len = omega arith in
    let some : 0 < length into = omega (arith, c.deref_mut.ensures.len, size, come.room) in
    let none : c.in_ok-count.count ≡ 0 = c.if-count-eq0.true in
    let name = c.args.name.now in
    let whole : Known held (λ files. bytes ≡ content files name) =
    known_both held (λ files. whole_front (content files name) bytes into c.self.inside.at
    c.in_ok-count.count come.size none some) come.front c.in_ok-count.ensures.bytes in
    let was_err = c.in_err-end_of.was in
    let handed_on = rw same at c.from_residual-in_err-end_of.ensures.1 in
    stopped_end held name bytes c.args.wanted.now (refusals.Trace fault) _ whole come.read
    c.clear.ensures.items (c.end_of.ensures.refused (refusals.Trace fault) (cc))

pub returns-in_err-take_piece-clause-stopped : goal.returns-in_err-take_piece-clause-stopped
returns-in_err-take_piece-clause-stopped g c = λ fault same bytes reached.
    let into = c.fetch.new.piece in
    let was = c.self.inside.piece.items in
    let lent : length into ≡ c.self.inside.piece.len = omega (arith, c.deref_mut.ensures.len) in
    let size : length was ≡ c.self.inside.piece.len = omega arith in
    let back = given_back c.self.inside.piece.len into was lent size in
    let held = (g.S.Shelf.outside c.fetch.new.shelf).held in
    let name = c.args.name.now in
    let came = subst (HasCome (g.S.Shelf.outside c.args.shelf.now).held name c.args.wanted.now
    bytes) (sym c.self.view_is) reached in
    let come = come_still _ held _ _ _ _ c.in_ok-count.ensures.only.held came in
    let at = c.self.inside.at in
    let count = c.in_ok-count.count in
    let fits : count ≤ length into = omega (arith, c.in_ok-count.ensures.bound) in
    let front : Known held (λ files. IsFront (content files name) (bytes ++ take count into)) =
    known_both held (λ files. longer_front (content files name) bytes into at count come.size fits)
    come.front c.in_ok-count.ensures.bytes in
    let was_err = c.in_err-take_piece.was in
    let handed_on = rw same at c.from_residual-in_err-take_piece.ensures.1 in
    let w = c.args.wanted.now in
    let stops : StopsAtMagic w bytes (take count into) =
    stops_there w bytes into at count come.size fits come.read.sited
    (c.in_ok-count.ensures.magic) in
    let refusal = refusals.Trace fault in
    let refused : (more : List ℕ) → refusal_of w ((bytes ++ take count into) ++ more)
    ≡ Some refusal =
    λ more. subst (λ (xs : List ℕ). StopsAtMagic w bytes (take count xs)
    → refusal_of w ((bytes ++ take count xs) ++ more) ≡ Some refusal)
    (c.deref.ensures.value ∙ back) (c.take_piece.ensures.refused refusal
    (cc) bytes more come.read.reading) stops in
    let reader = c.take_piece.new.reader in
    let items = c.take_piece.new.items.items in
    let in_it : StopsIn (bytes ++ take count into) bytes fault reader items =
    subst (λ (xs : List ℕ). StopsIn (bytes ++ take count xs) bytes fault reader items)
    (c.deref.ensures.value ∙ back) (c.take_piece.ensures.stopped fault (cc) bytes
    come.read.reading) in
    stopped_piece held name bytes (bytes ++ take count into) (take count into) w fault _ refl front
    in_it refused
