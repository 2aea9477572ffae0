-- What a reader holds, and what it stands for. Proofs alone need it.
use Rattle.std.specs.Prelude.{◌≡◌, ◌⊎◌, ◌≤◌, ◌<◌, ◌+◌, ◌^◌, ℕ, List, [], ◌++◌, length, take, Some, None, Result, Ok, Err, Bool, true, false}
use Rattle.packstream.specs.declared.fault.Reason.{Reason}
use Rattle.packstream.specs.declared.fault.Reason.TheVariants as reason
use Rattle.packstream.specs.declared.marker.Marker.{Marker}
use Rattle.packstream.specs.declared.marker.Marker.TheVariants as announces
use Rattle.packstream.specs.Tree.{Tree}
use Rattle.packstream.specs.Good.{depth, IsSound}
use Rattle.packstream.specs.Plain.{AreBytes}
use Rattle.packstream.specs.Markers.{marker}
use Rattle.packstream.specs.Spelling.{SpellsTree}
use Rattle.packstream.specs.Faults.{Place, Bad}
use Rattle.packstream_incremental.specs.declared.read_fault.ReadFault.{ReadFault}
use Rattle.packstream_incremental.specs.declared.read_fault.ReadFault.TheVariants as stop
use Rattle.packstream_incremental.specs.declared.progress.Part.{Part}
use Rattle.packstream_incremental.specs.declared.progress.Part.TheVariants as part
use Rattle.packstream_incremental.specs.declared.progress.Cursor.{Cursor}
use Rattle.packstream_incremental.specs.declared.progress.Mark.{Mark}
use Rattle.packstream_incremental.specs.declared.progress.Reading.{Reading}
use Rattle.packstream_incremental.specs.Heads.{field, body, size_with, head_bytes, part_head}
use Rattle.packstream_incremental.specs.Naming.{Name, ArePlaced}
use Rattle.packstream_incremental.specs.Frames.{Frame, place, AreFrames, AreLevels, HaveNames, head_fault}
use Rattle.packstream_incremental.specs.Piecewise.{Point, Points, IsBeginning}
use Rattle.packstream.specs.Limits.{max_depth}

-- the bytes that were read, the names of keys among them, and what stands beside them
pub record Holds : Type 0 where
  pub store : List ℕ
  pub names : List Name
  pub cursor : Cursor

-- what a reading holds, as contracts see it
abbrev pub holds : Reading → Holds
holds r = record {
  store = r.texts.bytes;
  names = r.texts.names;
  cursor = r.cursor;
}

-- the point where it stands
abbrev pub point : Holds → Point
point h = record { bytes = h.store; bad = h.cursor.bad }

-- the mark of where it stands
abbrev pub mark_of : Holds → Mark
mark_of h = record {
  store = length h.store;
  keys = length h.names;
  cursor = h.cursor;
}

-- what it holds once it has returned to a mark
abbrev pub at_mark : Mark → Holds → Holds
at_mark m h = record {
  store = take m.store h.store;
  names = take m.keys h.names;
  cursor = m.cursor;
}

-- what it holds, turned bad by this fault at this place
abbrev pub with_fault : Reason → ℕ → Holds → Holds
with_fault r o h = record h { cursor = record h.cursor { bad = Some (r, o) } }

-- the item that was begun is whole, and ends if the bytes do
abbrev pub with_item : Holds → Holds
with_item h = record h {
  cursor = record h.cursor { part = part.Nothing; read = length h.store };
}

-- the byte announces something that may stand there
abbrev pub IsAdmitted : Place → ℕ → Type 0
IsAdmitted p m = (what : Marker) × (marker m ≡ Some what) × (head_fault p what ≡ None)

-- There is a marker, and so many bytes of the number after it.
pub record IsHeadPart (p : Place) (m number has : ℕ) (tail : List ℕ) : Type 0 where
  pub bare : tail ≡ []
  pub admitted : IsAdmitted p m
  pub few : has ≤ field (marker m)
  pub small : number < 256 ^ has

-- There is a marker with its number, and all but so many bytes of the text or byte string.
pub record IsBodyPart (p : Place) (m number lacks : ℕ) (tail : List ℕ) : Type 0 where
  pub admitted : IsAdmitted p m
  pub small : number < 256 ^ field (marker m)
  pub long : length tail + lacks ≡ body (marker m) number

-- a part of an item, or all of it, of which tail is what came of its text or byte string
abbrev pub IsPart : Place → Part → List ℕ → Type 0
IsPart p part.Nothing tail = tail ≡ []
IsPart p (part.Head m number has) tail = IsHeadPart p m number has tail
IsPart p (part.Body m number lacks) tail = IsBodyPart p m number lacks tail

-- bytes are missing from the part, if one was begun
abbrev pub IsLacking : Part → Type 0
IsLacking part.Nothing = Unit {0}
IsLacking (part.Head m number has) = has < field (marker m)
IsLacking (part.Body m number lacks) = 0 < lacks

-- The value isn't whole, and p is the part behind what is open: the bytes are those of what is open, and of the part.
pub record Goes (h : Holds) (p : Part) : Type 0 where
  pub frames : List Frame
  pub full : List ℕ
  pub tail : List ℕ
  pub unread : h.cursor.«open».is_whole ≡ false
  pub store : h.store ≡ full ++ (part_head p ++ tail)
  pub are : AreFrames frames full
  pub read : h.cursor.read ≡ length full
  pub levels : AreLevels frames h.cursor.«open».depth h.cursor.«open».around
  pub named : HaveNames frames h.names h.store
  pub placed : ArePlaced h.names (length h.store)
  pub isa : IsPart (place frames) p tail

-- it announces a list or a structure with so many members
abbrev pub IsListOf : Marker → ℕ → ℕ → Type 0
IsListOf (announces.List size) number count = size_with size number ≡ count
IsListOf (announces.Struct n) number count = n ≡ count
IsListOf m number count = ⊥

-- All of the item is there: it spells a value that may stand behind what is open.
pub record IsValueBehind (h : Holds) (m number : ℕ) (g : Goes h (part.Body m number 0))
    : Type 0 where
  pub tree : Tree
  pub sound : IsSound tree
  pub deep : depth tree + length g.frames ≤ max_depth
  pub spells : SpellsTree tree (head_bytes m number ++ g.tail)
  pub keyless : (place g.frames).key ≡ None

-- Where all of the item is there, it spells a value that may stand where h stands.
abbrev pub IsValue : Holds → ℕ → ℕ → Type 0
IsValue h m number = (g : Goes h (part.Body m number 0)) → IsValueBehind h m number g

-- The value is whole.
pub record IsDone (h : Holds) : Type 0 where
  pub tree : Tree
  pub whole : h.cursor.«open».is_whole ≡ true
  pub none : h.cursor.part ≡ part.Nothing
  pub spells : SpellsTree tree h.store
  pub sound : IsSound tree
  pub deep : depth tree ≤ max_depth
  pub read : h.cursor.read ≡ length h.store
  pub placed : ArePlaced h.names (length h.store)

-- The value is whole; or it isn't, and a part that was begun lacks bytes.
abbrev pub IsStanding : Holds → Type 0
IsStanding h = IsDone h ⊎ (Goes h h.cursor.part × IsLacking h.cursor.part)

-- what a reader keeps
pub record IsKeeping (h : Holds) : Type 0 where
  pub bytes : AreBytes h.store
  pub stands : IsStanding h

-- its lists have only grown
pub record HasGrown (old new : Holds) : Type 0 where
  pub store : (s : List ℕ) × (new.store ≡ old.store ++ s)
  pub names : (ns : List Name) × (new.names ≡ old.names ++ ns)

-- It took these bytes, but those that rest are for another item.
pub record HasTaken (b : List ℕ) (new : Holds) (rest : List ℕ) : Type 0 where
  pub stands : IsStanding new
  pub bytes : new.store ++ rest ≡ b
  pub ends : (new.cursor.part ≡ part.Nothing) ⊎ (rest ≡ [])
  pub bad : new.cursor.bad ≡ None

-- These bytes have this fault, and it isn't for missing bytes; of want of memory nothing is known.
abbrev pub IsFaultOf : ReadFault → List ℕ → Type 0
IsFaultOf stop.Memory b = Unit {0}
IsFaultOf (stop.Fault r o) b = Bad b o r × (r ≡ reason.Short → ⊥)

-- what is answered to these bytes: those that rest, by `view`, if it took the others; or their fault
abbrev pub Answers : {X : Type 0} → (X → List ℕ) → Result X ReadFault → List ℕ → Holds → Type 0
Answers view (Ok x) b new = HasTaken b new (view x)
Answers view (Err e) b new = IsFaultOf e b

-- the point where it stands, and the one to which a mark returns
abbrev pub points : Holds → Mark → Points
points h m = record { here = point h; held = point (at_mark m h) }

-- the held point is one where the reader stood
pub record IsKept (h : Holds) (m : Mark) : Type 0 where
  pub store : m.store ≤ length h.store
  pub names : m.keys ≤ length h.names
  pub here : IsKeeping h
  pub behind : IsKeeping (at_mark m h)
  pub held : IsBeginning (at_mark m h).store h.store

-- where it stands, and the point that is held
abbrev pub points_at : Bool → Holds → Mark → Points
points_at true h m = record { here = point h; held = point h }
points_at false h m = points h m

-- The point that is held is here, or one where the reader stood.
abbrev pub IsKeptAt : Bool → Holds → Mark → Type 0
IsKeptAt true h m = IsKeeping h
IsKeptAt false h m = IsKept h m

-- The mark returns there: it has the lengths of the lists, and what stands beside them; of the array
-- it has the levels that are open.
pub record IsMark (h : Holds) (m : Mark) : Type 0 where
  pub store : m.store ≡ length h.store
  pub names : m.keys ≡ length h.names
  pub part : m.cursor.part ≡ h.cursor.part
  pub read : m.cursor.read ≡ h.cursor.read
  pub bad : m.cursor.bad ≡ h.cursor.bad
  pub is_whole : m.cursor.«open».is_whole ≡ h.cursor.«open».is_whole
  pub levels : (fs : List Frame) → AreLevels fs h.cursor.«open».depth h.cursor.«open».around
      → AreLevels fs m.cursor.«open».depth m.cursor.«open».around

-- Each point that was held before stays.
abbrev pub HoldsOn : Holds → Holds → Type 0
HoldsOn old new = (m : Mark) → IsKept old m
    → IsKept new m × (point (at_mark m new) ≡ point (at_mark m old))
