-- A run, by where a server stands.
use Rattle.std.proofs.Common.{◌≡◌, refl, ap, sym, subst, map, ℕ, arith, List, [], ◌++◌, Option, Result}
use Rattle.engine.specs.declared.answer.Mode.{Mode as QueryMode}
use Rattle.engine.specs.Prelude.{WriteView, ParameterView, EntryView, AnswerView, QueryFault, Welcome}
use Rattle.server.specs.Prelude.{Rest, Live, Event, find}
use Rattle.server_event_loop.specs.declared.seat.Seat.{Seat}
use Rattle.server_event_loop.specs.declared.closing.Closing.{Closing}
use Rattle.server_event_loop.specs.ConnectionPrelude.{Wire, Held, new_held, seat_held, begins}
use Rattle.server_event_loop.proofs.Apart.{turns_reach, turns_along}
use Rattle.server_event_loop.specs.Prelude.{At, Told, Owed, closing_owed, IsSeated, Stands, Leads, Runs}
use Rattle.server_event_loop.proofs.Lists.{tells_none}
use Rattle.server_event_loop.proofs.Led.{among, leads_heard}

-- A server has come to stand so, by some calls.
pub record HasCome {G : Type 0} (answer : List EntryView → List WriteView → List ℕ → List ParameterView → QueryMode → Result AnswerView QueryFault) (welcomes : G → Welcome) (r : Rest G) (before : ℕ → Wire) (earlier : Option (List Told)) (a : At G) : Type 0 where
  pub seated : IsSeated a
  pub calls : List Event
  pub stands : Stands answer welcomes r before earlier calls a

module _ {G : Type 0} (answer : List EntryView → List WriteView → List ℕ → List ParameterView → QueryMode → Result AnswerView QueryFault) (welcomes : G → Welcome) where
  pub has_begun : (r : Rest G) (u : ℕ → Wire) (t : Option (List Told)) → r.sessions ≡ [] → HasCome answer welcomes r u t (among [] [] r u t)
  has_begun r u t none = record {
    seated = record { once = λ k. omega arith; seats = tt; closings = tt; unused = λ k l. ap (λ (ss : List Live). find k ss) none };
    calls = [];
    stands = record {
      held = new_held;
      turns = begins;
      seats = tt;
      closings = tt;
      untouched = λ k l. refl;
      made = [];
      told = tells_none t;
      ends = tt;
    };
  }

  pub has_led : {m : ℕ} {r : Rest G} {before : ℕ → Wire} {earlier : Option (List Told)} {a b : At G} → HasCome answer welcomes r before earlier a → Leads answer welcomes m a b → HasCome answer welcomes r before earlier b
  has_led {r = r} {before = before} {earlier = earlier} h l =
      let x = l.from r before earlier h.calls h.seated h.stands in
      record {
        seated = l.seated h.seated;
        calls = h.calls ++ x.0;
        stands = x.2;
      }

  pub has_begun_so : (r : Rest G) (u : ℕ → Wire) (t : Option (List Told)) (seats : List Seat) (closings : List Closing) → r.sessions ≡ [] → seats ≡ [] → closings ≡ [] → HasCome answer welcomes r u t (among (map seat_held seats) (map closing_owed closings) r u t)
  has_begun_so r u t seats closings none a b =
      subst (λ (xs : List Seat). HasCome answer welcomes r u t (among (map seat_held xs) (map closing_owed closings) r u t)) (sym a)
      (subst (λ (xs : List Closing). HasCome answer welcomes r u t (among [] (map closing_owed xs) r u t)) (sym b) (has_begun r u t none))

  -- no byte moved, and the same is held
  pub has_waited : {first r : Rest G} {before u v : ℕ → Wire} {earlier t : Option (List Told)} (hs ks : List Held) (cs ds : List Owed) → HasCome answer welcomes first before earlier (among hs cs r u t) → ks ≡ hs → ds ≡ cs → ((k : ℕ) → v k ≡ u k) → HasCome answer welcomes first before earlier (among ks ds r v t)
  has_waited {first = first} {r = r} {before = before} {v = v} {earlier = earlier} {t = t} hs ks cs ds h a b same =
      subst (λ (xs : List Held). HasCome answer welcomes first before earlier (among xs ds r v t)) (sym a)
      (subst (λ (xs : List Owed). HasCome answer welcomes first before earlier (among hs xs r v t)) (sym b) (has_led h (leads_heard answer welcomes hs cs same)))

  pub has_run : {r : Rest G} {before : ℕ → Wire} {earlier : Option (List Told)} {a : At G} → HasCome answer welcomes r before earlier a → Runs answer welcomes r a.rest before a.wire earlier a.told
  has_run h = record {
    calls = h.calls;
    reaches = turns_reach answer welcomes h.stands.turns;
    held = h.stands.held;
    bytes = turns_along answer welcomes h.stands.turns;
    made = h.stands.made;
    told = h.stands.told;
    ends = h.stands.ends;
  }
