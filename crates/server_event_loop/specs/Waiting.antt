-- How long nothing is done, and who is given up.
use Rattle.std.specs.Prelude.{◌≡◌, ◌⊎◌, ◌++◌, ◌<◌, ◌+◌, ◌-◌, ◌^◌, ◌||◌, ◌&&◌, ◌==◌, not, nat_lt, min, ℕ, List, [], ◌∷◌, Bool, true, false, Option, Some, None, if◌then◌else◌}
use Rattle.std.specs.List.{list_any}
use Rattle.server_event_loop.specs.declared.limits.Limits.{Limits}
use Rattle.server_event_loop.specs.declared.seat.Seat.{Seat}
use Rattle.server_event_loop.specs.declared.closing.Closing.{Closing}
use Rattle.server_event_loop.specs.declared.limits.Readiness.{Readiness}
use Rattle.server_event_loop.specs.Turns.{joined, is_seat_busy, seat_deadline, is_closing_busy, closing_deadline, is_closed}
use Rattle.server_event_loop.specs.Peers.{Wire}
use Rattle.server_event_loop.specs.Views.{Lingers}
use Rattle.server.specs.Serving.{Rest, is_full}

-- a connection whose session lives isn't given up yet
abbrev pub InTime : Limits → ℕ → Seat → Type 0
InTime limits now s = now < seat_deadline s limits

-- a seat was added of a connection that isn't given up yet, or none
abbrev pub AddsInTime : Limits → ℕ → List Seat → List Seat → Type 0
AddsInTime limits now old new =
    (new ≡ old) ⊎ ((s : Seat) × InTime limits now s × (new ≡ old ++ s ∷ []))

-- whether a connection whose session was given up remains open: something more is done, and there is time for it
abbrev pub remains : Limits → ℕ → Closing → Bool
remains limits now c =
    not (is_closed c.phase) && nat_lt now (closing_deadline c.phase c.since limits)

-- A turn of the first connection whose session was given up, if there is one: it is the last then, or it is closed, and the others stay.
pub data Fades (limits : Limits) (now : ℕ) (cs ds : List Closing) (u v : ℕ → Wire) : Type 0 where
  nobody : cs ≡ [] → ds ≡ [] → ((k : ℕ) → v k ≡ u k) → Fades limits now cs ds u v
  turned :
      (c d : Closing) (rest : List Closing) → cs ≡ c ∷ rest → ds ≡ rest ++ d ∷ []
      → Lingers c d u v → remains limits now d ≡ true → Fades limits now cs ds u v
  closed :
      (c d : Closing) (w : ℕ → Wire) → cs ≡ c ∷ ds → Lingers c d u w
      → ((k : ℕ) → v k ≡ w k) → remains limits now d ≡ false → Fades limits now cs ds u v

-- the nearest deadline, of these and this
abbrev pub nearest_seat : Limits → List Seat → ℕ → ℕ
nearest_seat limits [] time = time
nearest_seat limits (s ∷ ss) time = nearest_seat limits ss (min time (seat_deadline s limits))

abbrev pub nearest_closing : Limits → List Closing → ℕ → ℕ
nearest_closing limits [] time = time
nearest_closing limits (c ∷ cs) time =
    nearest_closing limits cs (min time (closing_deadline c.phase c.since limits))

-- whether a turn of a connection whose session was given up would do something
abbrev pub is_busy : Closing → Bool
is_busy c = is_closing_busy c.phase c.ready

-- whether a turn of one of them would do something
abbrev pub any_busy : List Seat → List Closing → Bool
any_busy seats closings = list_any is_seat_busy seats || list_any is_busy closings

-- Whether a further connection may be let in, beside so many whose sessions live and so many whose sessions were given up.
abbrev pub has_room : {G : Type 0} → ℕ → ℕ → Rest G → Bool
has_room seats closings r =
    nat_lt seats 16 && (nat_lt (seats + closings) 32 && not (is_full r))

-- from when on somebody is greeted: never if nobody waits, or if there is no room
abbrev pub greeting_time : Option ℕ → Bool → ℕ
greeting_time None room = 2 ^ 64 - 1
greeting_time (Some time) room = if room then time else 2 ^ 64 - 1

-- once this is ready of the connection with this number
abbrev pub woken_seat : ℕ → Readiness → Seat → Seat
woken_seat conn ready s =
    if s.line.conn == conn then record s { ready = joined s.ready ready } else s

abbrev pub woken_closing : ℕ → Readiness → Closing → Closing
woken_closing conn ready c =
    if c.conn == conn then record c { ready = joined c.ready ready } else c

-- how long nothing is to be done: not at all where a turn would do something; else up to the first deadline, or this time
abbrev pub pause : Limits → ℕ → List Seat → List Closing → ℕ → ℕ
pause limits now seats closings time =
    if any_busy seats closings then 0
    else nearest_closing limits closings (nearest_seat limits seats time) - now
