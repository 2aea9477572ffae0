-- Whose turn it is, and how long is waited.
use Rattle.std.specs.Prelude.{◌≡◌, Option, Some, None, ℕ, ◌+◌, ◌^◌, ◌-◌, min, Bool, true, false, ◌||◌, ◌&&◌, not, ◌==◌, length, if◌then◌else◌}
use Rattle.machine.specs.declared.states.State.{State}
use Rattle.machine.specs.declared.states.State.TheVariants.{Fresh, Unauth}
use Rattle.server_event_loop.specs.declared.limits.Limits.{Limits}
use Rattle.server_event_loop.specs.declared.limits.Readiness.{Readiness}
use Rattle.server_event_loop.specs.declared.seat.Seat.{Seat}
use Rattle.server_event_loop.specs.declared.seat.Want.{Want}
use Rattle.server_event_loop.specs.declared.seat.Want.TheVariants.{Work, Bytes, Room}
use Rattle.server_event_loop.specs.declared.closing.Phase.{Phase}
use Rattle.server_event_loop.specs.declared.closing.Phase.TheVariants.{Writing, Draining, Closed}

-- whether a session that stands so is past its client's log in
abbrev pub is_past_log_in : Option State → Bool
is_past_log_in None = false
is_past_log_in (Some Fresh) = false
is_past_log_in (Some Unauth) = false
is_past_log_in (Some s) = true

-- it came at the same time, and is as far let in
pub record IsAsOld (old new : Seat) : Type 0 where
  pub since : new.since ≡ old.since
  pub let_in : new.let_in ≡ old.let_in

-- everything that either of the two allows
abbrev pub joined : Readiness → Readiness → Readiness
joined a b = record {
  reads = a.reads || b.reads;
  writes = a.writes || b.writes;
  last = a.last || b.last;
}

-- so many milliseconds after a time, and at most the last time that there is
abbrev pub later : ℕ → ℕ → ℕ
later time wait = min (time + wait) (2 ^ 64 - 1)

-- whether a session goes on with what it wants
abbrev pub goes_on : Want → Readiness → Bool
goes_on Work ready = true
goes_on Bytes ready = ready.reads
goes_on Room ready = ready.writes

-- whether something is going
abbrev pub is_going : Seat → Bool
is_going s = not (length s.line.going == 0)

-- whether a turn of a connection whose session lives would do something
abbrev pub is_seat_busy : Seat → Bool
is_seat_busy s = goes_on s.want s.ready || (s.ready.writes && is_going s)

-- when its peer is given up: if it was let in, by its silence, and else by the time since it came
abbrev pub seat_deadline : Seat → Limits → ℕ
seat_deadline s limits =
    if s.let_in then later s.moved limits.silence else later s.since limits.arrival

-- whether nothing more is done with a connection whose session was given up
abbrev pub is_closed : Phase → Bool
is_closed Closed = true
is_closed _ = false

-- whether a turn of such a connection would do something
abbrev pub is_closing_busy : Phase → Readiness → Bool
is_closing_busy Writing ready = ready.writes
is_closing_busy Draining ready = ready.reads
is_closing_busy Closed ready = false

-- when such a connection is closed, done or not
abbrev pub closing_deadline : Phase → ℕ → Limits → ℕ
closing_deadline Writing since limits = later since limits.silence
closing_deadline Draining since limits = later since limits.last
closing_deadline Closed since limits = 0
