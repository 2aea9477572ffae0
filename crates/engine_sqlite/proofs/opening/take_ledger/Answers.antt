use Rattle.std.proofs.Common.{◌≡◌, subst, sym, to_z, of_z, w64, rules}
use Rattle.engine_sqlite.specs.Shown.{IsLeft, Numbers}
use Rattle.engine_sqlite.proofs.Selecting.{left_then, on_err, read_schema}
use Rattle.sqlite.specs.Held.{state}
use Rattle.sqlite.specs.State.{HasCleanDisk}
use Rattle.engine_sqlite.proofs.opening.take_ledger.Goals as goal

pub returns-in_err-opening-clause-refused : goal.returns-in_err-opening-clause-refused
returns-in_err-opening-clause-refused g c other =
    let first = c.args.conn.now in
    let made = c.make_ready.new.conn in
    let read = c.take_rows.new.conn in
    let last = c.next_opening.new.conn in
    let es = g.E.Engine.entries c.take_rows.new.inner in
    let ready = λ (clean : HasCleanDisk (state g.S.Store read)). c.in_ok-make_ready.ensures.ready (c.take_rows.ensures.clean clean) in
    let one : IsLeft (state g.S.Store made) (state g.S.Store read) = c.take_rows.ensures.left (λ clean. (ready clean).schema) in
    let two : IsLeft (state g.S.Store read) (state g.S.Store last) =
    c.next_opening.ensures.left (λ clean. let before = c.next_opening.ensures.clean clean in read_schema (state g.S.Store made) (state g.S.Store read) es (ready before).schema (c.in_ok-take_rows.ensures.brings before)) in
    let both = left_then (state g.S.Store made) (state g.S.Store read) (state g.S.Store last) one two in
    let all : IsLeft (state g.S.Store first) (state g.S.Store last) = subst (λ h. IsLeft (state g.S.Store h) (state g.S.Store last)) (c.make_ready.ensures.kept other) both in
    on_err c.from_residual-in_err-opening.result (IsLeft (state g.S.Store first) (state g.S.Store last)) all

pub returns-then-not-is_autocommit-clause-refused : goal.returns-then-not-is_autocommit-clause-refused
returns-then-not-is_autocommit-clause-refused g c other =
    let first = c.args.conn.now in
    let made = c.make_ready.new.conn in
    let read = c.take_rows.new.conn in
    let last = c.next_opening.new.conn in
    let es = g.E.Engine.entries c.take_rows.new.inner in
    let ready = λ (clean : HasCleanDisk (state g.S.Store read)). c.in_ok-make_ready.ensures.ready (c.take_rows.ensures.clean clean) in
    let one : IsLeft (state g.S.Store made) (state g.S.Store read) = c.take_rows.ensures.left (λ clean. (ready clean).schema) in
    let two : IsLeft (state g.S.Store read) (state g.S.Store last) =
    c.next_opening.ensures.left (λ clean. let before = c.next_opening.ensures.clean clean in read_schema (state g.S.Store made) (state g.S.Store read) es (ready before).schema (c.in_ok-take_rows.ensures.brings before)) in
    let both = left_then (state g.S.Store made) (state g.S.Store read) (state g.S.Store last) one two in
    let all : IsLeft (state g.S.Store first) (state g.S.Store last) = subst (λ h. IsLeft (state g.S.Store h) (state g.S.Store last)) (c.make_ready.ensures.kept other) both in
    all

pub returns-clause-opened : goal.returns-clause-opened
returns-clause-opened g c clean =
    let made = c.make_ready.new.conn in
    let read = c.take_rows.new.conn in
    let last = c.next_opening.new.conn in
    let before : HasCleanDisk (state g.S.Store read) = c.next_opening.ensures.clean clean in
    let same : to_z w64 (of_z w64 c.in_ok-opening.opening) ≡ c.in_ok-opening.opening = search rules in
    record {
      made = made;
      read = read;
      ready = c.in_ok-make_ready.ensures.ready (c.take_rows.ensures.clean before);
      brings = c.in_ok-take_rows.ensures.brings before;
      numbered = subst (Numbers (state g.S.Store read) (state g.S.Store last)) (sym same) (c.in_ok-opening.ensures.numbers clean);
    }
