-- The worlds that an object fits, and what an event does at the link of its connection.
use Rattle.std.specs.Prelude.{◌≡◌, ℕ, Option, Some, Result, Ok, Err, List, slice_get, slice_set, Bool, true, false}
use Rattle.engine.specs.declared.Mode.{Mode as QueryMode}
use Rattle.engine.specs.Views.{EntryView, WriteView, ParameterView, AnswerView, QueryFault}
use Rattle.engine.specs.Welcomes.{Welcome}
use Rattle.server.specs.declared.Server.{Server}
use Rattle.server.specs.Serving as serving
use Rattle.server_session.specs.Session.{Setting}
use Rattle.server.specs.Views as server
use Rattle.messages.specs.View.{RequestView}
use Rattle.client.specs.Fits.{IsAccepted}
use Rattle.client.specs.declared.SubmitFault.{SubmitFault}
use Rattle.client.specs.declared.SubmitFault.TheVariants as submit_fault
use Rattle.client.specs.Rest as asking
use Rattle.world.specs.declared.kinds.Seen.{Seen as SeenTold}
use Rattle.world.specs.declared.kinds.Refused.{Refused}
use Rattle.world.specs.declared.link.Link.{Link as LinkHeld}
use Rattle.world.specs.declared.world.World.{World as WorldHeld}
use Rattle.world.specs.declared.kinds.Refused.TheVariants.{WrongPeer, Memory}
use Rattle.world.specs.Connections.{Foreign}
use Rattle.world.specs.World.{World, Event, Seen, Submitted, SawNothing, place, Reached}
use Rattle.world.specs.Fits.{Link, Rest, Alongside, Fits}
use Rattle.world.specs.Views.{seen_of, link_of, FitsEnd}
use Rattle.world.specs.Contract.{Answers, Follows, Replays}

-- an engine's definition and a gate's
abbrev pub Definition : Type 0
Definition = List EntryView → List WriteView → List ℕ → List ParameterView → QueryMode
    → Result AnswerView QueryFault

-- the setting by an engine's definition and a gate's, at what this gate is
abbrev pub setting_of : {G : Type 0} → Definition → (G → Welcome) → G → Setting
setting_of answer welcomes gate = record { run = answer; welcome = welcomes gate }

-- what a step answers, as contracts see it: what is seen, or the refusal as it is
abbrev pub seen_in : Result SeenTold Refused → Result Seen Refused
seen_in (Ok seen) = Ok (seen_of seen)
seen_in (Err refused) = Err refused

-- what is held of a connection stands as this link
pub record Holds (l : LinkHeld) (m : Link) : Type 0 where
  pub client : Option asking.Rest
  pub link_is : m ≡ link_of l client
  pub ends : FitsEnd l.end client

-- a link with a client, and what is held then
pub record HasClient (m : Link) (Now : asking.Rest → Type 0) : Type 0 where
  pub client : asking.Rest
  pub here : m.client ≡ Some client
  pub now : Now client

-- a request that the client of a link accepts, with this ordinal; and what is held then
pub record SubmitsWell (m : Link) (q : RequestView) (ordinal : ℕ) (Now : Link → Type 0)
    : Type 0 where
  pub client : asking.Rest
  pub here : m.client ≡ Some client
  pub accepted : IsAccepted client q ordinal
  pub now : Now (record m { client = Some (asking.after_submit client q) })

-- one that it refuses
pub record SubmitsInVain (m : Link) (q : RequestView) (fault : SubmitFault) (Now : Link → Type 0)
    : Type 0 where
  pub client : asking.Rest
  pub here : m.client ≡ Some client
  pub refused : asking.refuses client.knows q ≡ Some fault
  pub now : Now m

-- what a client is asked at a link; and what is held then
abbrev pub Submits : Link → RequestView → Result Seen Refused → (Link → Type 0) → Type 0
Submits m q (Ok (Submitted (Ok n))) Now = SubmitsWell m q n Now
Submits m q (Ok (Submitted (Err fault))) Now = SubmitsInVain m q fault Now
Submits m q (Err Memory) Now = HasClient m (λ y. Now m)
Submits m q (Err WrongPeer) Now = (m.peer ≡ Foreign) × Now m
Submits m q result Now = ⊥

-- want of memory is the world's refusal, and each other fault is seen
abbrev pub refusal_seen : SubmitFault → Result Seen Refused
refusal_seen submit_fault.Memory = Err Memory
refusal_seen fault = Ok (Submitted (Err fault))

-- the client's loss, unless it was lost before
abbrev pub after_loss : Bool → Link → asking.Rest → Link
after_loss true m y = m
after_loss false m y = record m {
  client = Some (asking.after_drop y);
  client_lost = true;
  lost = asking.losses y.knows;
}

-- what ClientLost answers at a link, refused of a foreign peer; and what is held then
abbrev pub LosesClient : Link → Result Seen Refused → (Link → Type 0) → Type 0
LosesClient m (Ok SawNothing) Now = HasClient m (λ y. Now (after_loss m.client_lost m y))
LosesClient m (Err WrongPeer) Now = (m.peer ≡ Foreign) × Now m
LosesClient m result Now = ⊥

-- that what a world holds, over this gate, stands for a world of the model
pub record IsWorld {E G : Type 0} (entries : E → List EntryView) (s : WorldHeld E G) (gate : G)
    (w : World) : Type 0 where
  pub rest : Rest G
  pub links : Alongside Holds s.links.items rest.links
  pub server : server.Fits entries s.server rest.server
  pub gated : rest.server.gate ≡ gate
  pub fits : Fits rest w

-- that what a world holds, over this gate, stands for this world of the model
unfoldable pub FitsWorld : {E G : Type 0} → (E → List EntryView) → WorldHeld E G → G → World
    → Type 0
FitsWorld entries s gate w = IsWorld entries s gate w

module _ {E G : Type 0} (entries : E → List EntryView) (answer : Definition)
    (welcomes : G → Welcome) where
  -- a link in its place, and the server beside it, stand for the world then
  pub record Now (r : Rest G) (c : ℕ) (l : LinkHeld) (s : Server E G) (w : World) : Type 0 where
    pub client : Option asking.Rest
    pub rest : serving.Rest G
    pub ends : FitsEnd l.end client
    pub server : server.Fits entries s rest
    pub gated : rest.gate ≡ r.server.gate
    pub fits : Fits (record { links = slice_set r.links c (link_of l client); server = rest }) w

  -- what is known where an event comes to its connection
  pub record Before (e : Event) (l : LinkHeld) (s : Server E G) (r : Rest G) (w : World)
      : Type 0 where
    pub brought : List EntryView
    pub reached : Reached (serving.setting answer welcomes r.server) brought w
    pub client : Option asking.Rest
    pub ends : FitsEnd l.end client
    pub server : server.Fits entries s r.server
    pub at : slice_get r.links (place e) ≡ Some (link_of l client)
    pub fits : Fits r w

  -- what an event does at its connection, of which the link is at hand
  abbrev pub Turns : Event → LinkHeld → Server E G → Result SeenTold Refused → LinkHeld → Server E G
      → Type 0
  Turns e l s result l2 s2 =
      (r : Rest G) (w : World) → Before e l s r w
      → Answers (serving.setting answer welcomes r.server) w e (seen_in result)
      (Now r (place e) l2 s2)

-- A world that fits what one event leads to from a world, or the same world where the event is refused and left out.
pub record GoesBy {E G : Type 0} (entries : E → List EntryView) (S : Setting) (gate : G)
    (brought : List EntryView) (w : World) (e : Event) (s : WorldHeld E G) : Type 0 where
  pub after : World
  pub follows : Follows S w e after
  pub reached : Reached S brought after
  pub fits : FitsWorld entries s gate after

-- A world that fits what events lead to from a world, in order, those left out that are refused.
pub record Goes {E G : Type 0} (entries : E → List EntryView) (S : Setting) (gate : G)
    (brought : List EntryView) (w : World) (es : List Event) (s : WorldHeld E G) : Type 0 where
  pub after : World
  pub replays : Replays S w es after
  pub reached : Reached S brought after
  pub fits : FitsWorld entries s gate after
