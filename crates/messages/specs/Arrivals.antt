-- What the bytes of a connection say to the end that reads them: at a server an offer and requests, at a client the answer to an
-- offer and responses.
use Rattle.std.specs.Prelude.{◌≡◌, ◌⊎◌, Bool, ℕ, ◌-◌, nat_le, if◌then◌else◌, Option, Some, None, Result, Ok, Err, List, [], ◌∷◌, ◌++◌, length, take, drop, map, reverse}
use Rattle.std.specs.Str.{bytes_eq}
use Rattle.wire.specs.declared.Version.{Version}
use Rattle.wire.specs.declared.Wish.{Wish}
use Rattle.wire.specs.Versions.{versions}
use Rattle.wire.specs.Offers.{magic, choice_of as version_taken, offer_of, wish_version, version_answer}
use Rattle.wire.specs.Texts.{written_run, noop}
use Rattle.wire.specs.Framing.{Item, Opening, Noop, Message, TooBig, items_received, items_heard, bytes_in_order, within, bytes_newest_first, within_newest_first}
use Rattle.wire.specs.Unfinished.{fresh}
use Rattle.wire.specs.Stream.{items_of}
use Rattle.wire.specs.Whole.{whole}
use Rattle.messages.specs.declared.fault.MsgFault.{MsgFault}
use Rattle.messages.specs.View.{RequestView, ResponseView}
use Rattle.messages.specs.Messages.{Req, Resp, request_of, response_of}
use Rattle.messages.specs.Writing.{request_spelling, response_spelling}

-- How an end takes the whole items of its stream: M is a message that it reads, A what it takes an item as.
pub record End (M A : Type 0) : Type 0 where
  -- the bytes that open the stream, and the version by which messages are read after them, if any is
  pub opening : List ℕ → A
  pub version : A → Option Version
  -- a no-op
  pub idle : A
  -- the reader of a message, a message that was read, and bytes that stand for none
  pub read : Version → List ℕ → Result M MsgFault
  pub message : M → A
  pub unread : MsgFault → A
  -- the header that takes a message past its limit
  pub past : A

-- after bytes that stand for no message nothing is read
abbrev pub then_read : {M A : Type 0} → End M A → Result M MsgFault → List A → List A
then_read e (Ok m) rest = e.message m ∷ rest
then_read e (Err f) rest = e.unread f ∷ []

-- what an end takes the items after what opens its stream as, up to the first after which nothing is read
abbrev pub taken_in : {M A : Type 0} → End M A → Version → List Item → List A
taken_in e v [] = []
taken_in e v (Opening bytes ∷ xs) = []
taken_in e v (Noop ∷ xs) = e.idle ∷ taken_in e v xs
taken_in e v (Message b ∷ xs) = then_read e (e.read v b) (taken_in e v xs)
taken_in e v (TooBig ∷ xs) = e.past ∷ []

-- messages are read by the version, and if there is none, nothing is
abbrev pub taken_by : {M A : Type 0} → End M A → Option Version → List Item → List A
taken_by e (Some v) xs = taken_in e v xs
taken_by e None xs = []

-- what an end takes the items of its stream as, the oldest first: what opens it, and what follows
abbrev pub taken : {M A : Type 0} → End M A → List Item → List A
taken e (Opening bytes ∷ xs) = e.opening bytes ∷ taken_by e (e.version (e.opening bytes)) xs
taken e xs = []

-- What a server takes a whole item of the bytes as: an offer, with the version taken of it, or none; an offer that doesn't begin
-- with the magic; a no-op; a request; bytes that stand for no request; the header that takes a message past its limit.
pub data Arrival : Type 0 where
  Shook : Option Version → Arrival
  NoMagic : Arrival
  Idle : Arrival
  Asked : RequestView → Arrival
  Unread : MsgFault → Arrival
  TooLong : Arrival

-- what a server takes an offer as, by its bytes
abbrev pub arrival_of_offer : List ℕ → Arrival
arrival_of_offer bytes =
    if bytes_eq (take 4 bytes) magic then Shook (version_taken (drop 4 bytes)) else NoMagic

-- the version that was taken of an offer
abbrev pub version_shaken : Arrival → Option Version
version_shaken (Shook o) = o
version_shaken a = None

-- how a server takes the items of its stream: an offer opens it, and then it reads requests
abbrev pub server_end : End RequestView Arrival
server_end = record {
  opening = arrival_of_offer;
  version = version_shaken;
  idle = Idle;
  read = request_of;
  message = Asked;
  unread = Unread;
  past = TooLong;
}

-- after bytes that stand for no request nothing is read
abbrev pub then_request : Result RequestView MsgFault → List Arrival → List Arrival
then_request r rest = then_read server_end r rest

-- what a server takes the items after an offer as, up to the first after which nothing is read
abbrev pub requests_in : Version → List Item → List Arrival
requests_in v xs = taken_in server_end v xs

-- requests are read by the version that was taken, and if none was, nothing is
abbrev pub after_shake : Arrival → List Item → List Arrival
after_shake a xs = taken_by server_end (version_shaken a) xs

-- what a server takes the items of a stream as: the offer, and what follows it
abbrev pub arrivals_of : List Item → List Arrival
arrivals_of xs = taken server_end xs

-- what arrives at a server, the oldest first
abbrev pub arrivals : List ℕ → List Arrival
arrivals bytes = arrivals_of (items_received bytes)

-- what arrives but no-ops
abbrev pub without_idle : List Arrival → List Arrival
without_idle [] = []
without_idle (Shook o ∷ xs) = Shook o ∷ without_idle xs
without_idle (NoMagic ∷ xs) = NoMagic ∷ without_idle xs
without_idle (Idle ∷ xs) = without_idle xs
without_idle (Asked m ∷ xs) = Asked m ∷ without_idle xs
without_idle (Unread e ∷ xs) = Unread e ∷ without_idle xs
without_idle (TooLong ∷ xs) = TooLong ∷ without_idle xs

-- a header may take the message after these past its limit
abbrev pub too_long : Bool → List Arrival
too_long past = if past then TooLong ∷ [] else []

-- the requests that messages stand for, up to the first that stands for none
abbrev pub requests_of : Version → List (List ℕ) → Bool → List Arrival
requests_of v [] past = too_long past
requests_of v (b ∷ bs) past = then_request (request_of v b) (requests_of v bs past)

-- What arrives after an offer of which a version is taken is the requests of the whole messages of the bytes after it, and the
-- refusal of a message past its limit; no-ops aside.
abbrev pub ArrivesWhole : Type 0
ArrivesWhole = (offer bytes : List ℕ) (v : Version) → length offer ≡ 20
    → arrival_of_offer offer ≡ Shook (Some v)
    → without_idle (arrivals (offer ++ bytes))
    ≡ Shook (Some v) ∷ requests_of v (whole bytes) (items_of fresh bytes).rest.too_big

-- the chunks of what is written, empty if it can't be
abbrev pub run_of_result : Result (List ℕ) MsgFault → List ℕ
run_of_result (Ok b) = written_run b
run_of_result (Err e) = []

-- the written run of a request at a version, no bytes if it can't be written
abbrev pub request_bytes : Version → RequestView → List ℕ
request_bytes v m = run_of_result (request_spelling v m)

-- a request with a spelling that stands for it, as each has that this product wrote
abbrev pub IsWritten : Version → RequestView → Type 0
IsWritten v m = (b : List ℕ) × (request_spelling v m ≡ Ok b) × Req v m b

-- its run was put
pub record PutsRequest (v : Version) (m : RequestView) (bytes : List ℕ) : Type 0 where
  pub written : IsWritten v m
  pub run : bytes ≡ request_bytes v m

-- requests each with a spelling that stands for it
abbrev pub AreWritten : Version → List RequestView → Type 0
AreWritten v [] = Unit {0}
AreWritten v (m ∷ ms) = IsWritten v m × AreWritten v ms

-- Of every front of an offer and requests' runs, the version that was wished and the requests that lie whole in it arrive.
abbrev pub RequestsArrive : Type 0
RequestsArrive = (wish : Wish) (ms : List RequestView) (n : ℕ) → AreWritten (wish_version wish) ms
    → arrivals (take n (offer_of wish ++ bytes_in_order (request_bytes (wish_version wish)) ms))
    ≡ (if nat_le (length (offer_of wish)) n then
    Shook (Some (wish_version wish))
    ∷ map Asked (within (request_bytes (wish_version wish)) (n - length (offer_of wish)) ms)
    else [])

-- What arrives of more bytes begins with what arrived.
abbrev pub ArrivalsGoOn : Type 0
ArrivalsGoOn = (bytes more : List ℕ)
    → (rest : List Arrival) × (arrivals (bytes ++ more) ≡ arrivals bytes ++ rest)

-- after which nothing is read
abbrev pub IsLast : Arrival → Type 0
IsLast (Shook (Some v)) = ⊥
IsLast (Shook None) = Unit {0}
IsLast NoMagic = Unit {0}
IsLast Idle = ⊥
IsLast (Asked m) = ⊥
IsLast (Unread e) = Unit {0}
IsLast TooLong = Unit {0}

-- If nothing is read after one of the arrivals, more bytes bring none.
abbrev pub NothingFollows : Type 0
NothingFollows = (bytes more : List ℕ) (before after : List Arrival) (last : Arrival) → IsLast last
    → arrivals bytes ≡ before ++ last ∷ after → arrivals (bytes ++ more) ≡ arrivals bytes

-- What a client takes a whole item of the bytes as: the answer to its offer, with a version, or none; four bytes that are no such
-- answer; a no-op; a response; bytes that stand for no response; the header that takes a message past its limit.
pub data Heard : Type 0 where
  Chosen : Option Version → Heard
  Strange : Heard
  Quiet : Heard
  Told : ResponseView → Heard
  Unheard : MsgFault → Heard
  Over : Heard

-- by the bytes of an answer: that of one of these versions, that of none, or none of them
abbrev pub heard_among : List Version → List ℕ → Heard
heard_among [] bytes = if bytes_eq bytes (version_answer None) then Chosen None else Strange
heard_among (v ∷ vs) bytes =
    if bytes_eq bytes (version_answer (Some v)) then Chosen (Some v) else heard_among vs bytes

-- what a client takes a version answer as, among the versions of this product
abbrev pub heard_version : List ℕ → Heard
heard_version bytes = heard_among versions bytes

-- the version that was answered
abbrev pub version_chosen : Heard → Option Version
version_chosen (Chosen o) = o
version_chosen h = None

-- how a client takes the items of its stream: a version answer opens it, and then it reads responses
abbrev pub client_end : End ResponseView Heard
client_end = record {
  opening = heard_version;
  version = version_chosen;
  idle = Quiet;
  read = response_of;
  message = Told;
  unread = Unheard;
  past = Over;
}

-- after bytes that stand for no response nothing is read
abbrev pub then_response : Result ResponseView MsgFault → List Heard → List Heard
then_response r rest = then_read client_end r rest

-- what a client takes the items after its version as, up to the first after which nothing is heard
abbrev pub heard_in : Version → List Item → List Heard
heard_in v xs = taken_in client_end v xs

-- responses are read by the version that was answered, and if none was, nothing is
abbrev pub after_version : Heard → List Item → List Heard
after_version h xs = taken_by client_end (version_chosen h) xs

-- what a client takes the items of a stream as: the version answer, and what follows it
abbrev pub heard_of : List Item → List Heard
heard_of xs = taken client_end xs

-- what a client hears, with the newest first, as what a server says is told
abbrev pub hears : List ℕ → List Heard
hears bytes = reverse (heard_of (items_heard bytes))

-- the bytes with which a server says it, empty if it can't be said
abbrev pub heard_bytes : Version → Heard → List ℕ
heard_bytes v (Chosen o) = version_answer o
heard_bytes v Strange = []
heard_bytes v Quiet = noop
heard_bytes v (Told m) = run_of_result (response_spelling v m)
heard_bytes v (Unheard e) = []
heard_bytes v Over = []

-- a response with a spelling that stands for it, as each has that this product wrote
abbrev pub IsSaid : Version → ResponseView → Type 0
IsSaid v m = (b : List ℕ) × (response_spelling v m ≡ Ok b) × Resp v m b

-- what a server of this product says where it takes a version, the newest first: the version, and after it no-ops and responses
abbrev pub IsSpoken : Version → List Heard → Type 0
IsSpoken v [] = ⊥
IsSpoken v (Chosen o ∷ xs) = (o ≡ Some v) × (xs ≡ [])
IsSpoken v (Strange ∷ xs) = ⊥
IsSpoken v (Quiet ∷ xs) = IsSpoken v xs
IsSpoken v (Told m ∷ xs) = IsSaid v m × IsSpoken v xs
IsSpoken v (Unheard e ∷ xs) = ⊥
IsSpoken v (Over ∷ xs) = ⊥

-- Of every front of what a server says, a client hears what lies whole in it.
abbrev pub SaysArrive : Type 0
SaysArrive = (v : Version) (xs : List Heard) (n : ℕ) → IsSpoken v xs
    → hears (take n (bytes_newest_first (heard_bytes v) xs))
    ≡ within_newest_first (heard_bytes v) n xs

-- All that a server has said by a moment: nothing yet, or what begins with a version.
abbrev pub IsSaidSoFar : Version → List Heard → Type 0
IsSaidSoFar v xs = (xs ≡ []) ⊎ IsSpoken v xs

-- Of every front of what a server has said by a moment, a client hears what lies whole in it.
abbrev pub SoFarArrives : Type 0
SoFarArrives = (v : Version) (xs : List Heard) (n : ℕ) → IsSaidSoFar v xs
    → hears (take n (bytes_newest_first (heard_bytes v) xs))
    ≡ within_newest_first (heard_bytes v) n xs

-- The answer of a server that takes no version is heard as that, once it is there whole.
abbrev pub NoVersionArrives : Type 0
NoVersionArrives = (n : ℕ)
    → hears (take n (version_answer None)) ≡ (if nat_le 4 n then Chosen None ∷ [] else [])

-- What is heard of more bytes is what was heard, and what is newer.
abbrev pub HearsGoOn : Type 0
HearsGoOn = (bytes more : List ℕ)
    → (newer : List Heard) × (hears (bytes ++ more) ≡ newer ++ hears bytes)

-- after which nothing is heard
abbrev pub IsLastHeard : Heard → Type 0
IsLastHeard (Chosen (Some v)) = ⊥
IsLastHeard (Chosen None) = Unit {0}
IsLastHeard Strange = Unit {0}
IsLastHeard Quiet = ⊥
IsLastHeard (Told m) = ⊥
IsLastHeard (Unheard e) = Unit {0}
IsLastHeard Over = Unit {0}

-- If nothing is heard after one of these, more bytes tell nothing more.
abbrev pub NothingMoreHeard : Type 0
NothingMoreHeard = (bytes more : List ℕ) (newer older : List Heard) (last : Heard)
    → IsLastHeard last → hears bytes ≡ newer ++ last ∷ older → hears (bytes ++ more) ≡ hears bytes
