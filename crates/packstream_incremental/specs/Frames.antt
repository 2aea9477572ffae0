-- What is open where a reader stands, and which of its keys are whose.
use Rattle.std.specs.Prelude.{◌≡◌, ◌≤◌, ◌<◌, ◌+◌, ◌-◌, ◌↔◌, ◌&&◌, if◌then◌else◌, nat_lt, nat_le, ℕ, suc, true, false, List, [], ◌∷◌, ◌++◌, length, slice_get, Option, Some, None, is_some}
use Rattle.packstream.specs.declared.marker.Size.{Size}
use Rattle.packstream.specs.declared.fault.Reason.{Reason}
use Rattle.packstream.specs.declared.fault.Reason.TheVariants as reason
use Rattle.packstream.specs.declared.marker.Marker.{Marker}
use Rattle.packstream.specs.declared.marker.Marker.TheVariants as announces
use Rattle.packstream_incremental.specs.declared.open.Inside.{Inside}
use Rattle.packstream_incremental.specs.declared.open.Inside.TheVariants as inside
use Rattle.packstream_incremental.specs.declared.open.Level.{Level}
use Rattle.packstream_incremental.specs.declared.open.Open.{Open}
use Rattle.packstream.specs.Tree.{Tree, list, dict, structure, Trees, no_trees, tree_then, Entries, no_entries, entry_then}
use Rattle.packstream.specs.Good.{depth, count, entry_count, trees_depth, entries_depth, IsSound, AreSound, HaveSoundValues, AreNewKeys, is_among}
use Rattle.packstream.specs.Spelling.{Begins, IsSize, SpellsText, SpellsTree, SpellsAll, SpellsEntries}
use Rattle.packstream.specs.Faults.{Place, Opened, in_list, in_struct, at_key, at_value, keys_of, key_there, outside, is_text, nests}
use Rattle.packstream_incremental.specs.Naming.{Name, IsNamed}
use Rattle.packstream.specs.Limits.{max_depth}

-- what is open, how many members or pairs it lacks, and where its keys begin among all
pub record Frame : Type 0 where
  pub opened : Opened
  pub lacks : ℕ
  pub first : ℕ

-- a frame by its parts
abbrev pub waits : Opened → ℕ → ℕ → Frame
waits f n first = record { opened = f; lacks = n; first = first }

-- b is the head of a list, and the members so far: good ones if so many heads are open. The head announces as many as
-- there are and as are lacking.
pub record IsListFrame (heads : ℕ) (ts : Trees) (lacks : ℕ) (b : List ℕ) : Type 0 where
  pub size : Size
  pub field : List ℕ
  pub body : List ℕ
  pub sized : IsSize size (count ts + lacks) field
  pub spelled : SpellsAll ts body
  pub sound : AreSound ts
  pub deep : trees_depth ts + heads ≤ max_depth
  pub begins : Begins (announces.List size) (field ++ body) b

-- b is the head of a structure, and the members so far, likewise.
pub record IsStructFrame (heads tag : ℕ) (ts : Trees) (lacks : ℕ) (b : List ℕ) : Type 0 where
  pub body : List ℕ
  pub spelled : SpellsAll ts body
  pub sound : AreSound ts
  pub deep : trees_depth ts + heads ≤ max_depth
  pub begins : Begins (announces.Struct (count ts + lacks)) (tag ∷ body) b

-- b is the head of a dictionary, and the entries so far, likewise.
pub record IsDictFrame (heads : ℕ) (es : Entries) (lacks : ℕ) (b : List ℕ) : Type 0 where
  pub size : Size
  pub field : List ℕ
  pub body : List ℕ
  pub sized : IsSize size (entry_count es + lacks) field
  pub spelled : SpellsEntries es body
  pub fresh : AreNewKeys [] es
  pub sound : HaveSoundValues es
  pub deep : entries_depth es + heads ≤ max_depth
  pub begins : Begins (announces.Dict size) (field ++ body) b

-- b is the head of a dictionary, the entries so far, likewise, and one key more.
pub record IsPairFrame (heads : ℕ) (es : Entries) (k : List ℕ) (lacks : ℕ) (b : List ℕ)
    : Type 0 where
  pub size : Size
  pub field : List ℕ
  pub body : List ℕ
  pub key : List ℕ
  pub sized : IsSize size (entry_count es + lacks) field
  pub spelled : SpellsEntries es body
  pub fresh : AreNewKeys [] es
  pub sound : HaveSoundValues es
  pub deep : entries_depth es + heads ≤ max_depth
  pub spelled_key : SpellsText k key
  pub new_key : is_among k (keys_of es) ≡ false
  pub begins : Begins (announces.Dict size) (field ++ (body ++ key)) b

-- b is the head, and the members so far: good ones, if so many heads are open; it announces as many as there are and
-- as are lacking.
abbrev pub IsFrame : ℕ → Opened → ℕ → List ℕ → Type 0
IsFrame heads (in_list ts) lacks b = IsListFrame heads ts lacks b
IsFrame heads (in_struct tag ts) lacks b = IsStructFrame heads tag ts lacks b
IsFrame heads (at_key es) lacks b = IsDictFrame heads es lacks b
IsFrame heads (at_value es k) lacks b = IsPairFrame heads es k lacks b

-- where the next byte stands
abbrev pub place : List Frame → Place
place [] = outside
place (f ∷ fs) = record { heads = length fs + 1; key = key_there f.opened }

-- b ends with f, which may be open inside of fs, and of the bytes before it holds what is said of what is around.
pub record IsInnermost (f : Frame) (fs : List Frame) (Around : List ℕ → Type 0) (b : List ℕ)
    : Type 0 where
  pub front : List ℕ
  pub rest : List ℕ
  pub around : Around front
  pub keyless : (place fs).key ≡ None
  pub room : length fs < max_depth
  pub waiting : 0 < f.lacks
  pub frame : IsFrame (length fs + 1) f.opened f.lacks rest
  pub whole : b ≡ front ++ rest

-- b is what is open, the innermost first
abbrev pub AreFrames : List Frame → List ℕ → Type 0
AreFrames [] b = b ≡ []
AreFrames (f ∷ fs) b = IsInnermost f fs (λ front. AreFrames fs front) b

-- what is read next of what is open
abbrev pub next_of : Opened → Inside
next_of (in_list ts) = inside.Member
next_of (in_struct tag ts) = inside.Member
next_of (at_key es) = inside.Key
next_of (at_value es k) = inside.ValueOfKey

-- a frame, as the array holds it
abbrev pub level : Frame → Level
level f = record { next = next_of f.opened; lacks = f.lacks; keys = f.first }

-- what is read next behind a value
abbrev pub after_value : Inside → Inside
after_value inside.Member = inside.Member
after_value inside.Key = inside.Key
after_value inside.ValueOfKey = inside.Key

-- The last of so many levels of the array is f, and of their number below it holds what is said of the others.
pub record IsLastLevel (f : Frame) (Others : ℕ → Type 0) (depth : ℕ) (around : List Level)
    : Type 0 where
  pub below : ℕ
  pub counted : depth ≡ suc below
  pub there : slice_get around below ≡ Some (level f)
  pub others : Others below

-- so many levels of the array are these frames, the innermost of them last
abbrev pub AreLevels : List Frame → ℕ → List Level → Type 0
AreLevels [] depth around = depth ≡ 0
AreLevels (f ∷ fs) depth around = IsLastLevel f (λ below. AreLevels fs below around) depth around

-- the names that begin there are these keys and no others
abbrev pub AreNames : List Name → List ℕ → ℕ → List (List ℕ) → Type 0
AreNames names store first keys = (s : List ℕ)
    → (is_among s keys ≡ true) ↔ IsNamed names store first s

-- an open dictionary's keys are its names, that of a waiting value too; if it has none, they begin behind all
abbrev pub HasNames : Opened → ℕ → List Name → List ℕ → Type 0
HasNames (in_list ts) first names store = Unit {0}
HasNames (in_struct tag ts) first names store = Unit {0}
HasNames (at_key es) first names store =
    AreNames names store first (keys_of es) × (keys_of es ≡ [] → first ≡ length names)
HasNames (at_value es k) first names store = AreNames names store first (keys_of es ++ k ∷ [])

-- the keys of an open dictionary begin before those of one inside it
abbrev pub BeginsBefore : Opened → ℕ → ℕ → Type 0
BeginsBefore (in_list ts) first inner = Unit {0}
BeginsBefore (in_struct tag ts) first inner = Unit {0}
BeginsBefore (at_key es) first inner = first < inner
BeginsBefore (at_value es k) first inner = first < inner

-- the keys of each open dictionary among these begin before those of one inside them
abbrev pub BeginBefore : List Frame → ℕ → Type 0
BeginBefore [] inner = Unit {0}
BeginBefore (f ∷ fs) inner = BeginsBefore f.opened f.first inner × BeginBefore fs inner

-- the keys of an open dictionary begin behind those of each open one around it
abbrev pub IsApart : Opened → ℕ → List Frame → Type 0
IsApart (in_list ts) first fs = Unit {0}
IsApart (in_struct tag ts) first fs = Unit {0}
IsApart (at_key es) first fs = BeginBefore fs first
IsApart (at_value es k) first fs = BeginBefore fs first

-- an open dictionary has its names, and its keys begin behind those of the ones around it
abbrev pub HasOwnNames : Frame → List Frame → List Name → List ℕ → Type 0
HasOwnNames f fs names store = HasNames f.opened f.first names store × IsApart f.opened f.first fs

-- each open dictionary has its own names
abbrev pub HaveNames : List Frame → List Name → List ℕ → Type 0
HaveNames [] names store = Unit {0}
HaveNames (f ∷ fs) names store = HasOwnNames f fs names store × HaveNames fs names store

-- ---- a value behind what is open

-- members with one more behind them
abbrev pub push_tree : Trees → Tree → Trees
push_tree no_trees t = tree_then t no_trees
push_tree (tree_then x ts) t = tree_then x (push_tree ts t)

-- entries with one more behind them
abbrev pub push_entry : Entries → List ℕ → Tree → Entries
push_entry no_entries k t = entry_then k t no_entries
push_entry (entry_then j x es) k t = entry_then j x (push_entry es k t)

-- the value becomes a member
abbrev pub with_member : Opened → Tree → Opened
with_member (in_list ts) t = in_list (push_tree ts t)
with_member (in_struct tag ts) t = in_struct tag (push_tree ts t)
with_member (at_key es) t = at_key es
with_member (at_value es k) t = at_key (push_entry es k t)

-- what it is with its members so far alone
abbrev pub tree_so_far : Opened → Tree
tree_so_far (in_list ts) = list ts
tree_so_far (in_struct tag ts) = structure tag ts
tree_so_far (at_key es) = dict es
tree_so_far (at_value es k) = dict es

-- what there is behind a value: it is the whole, or something is still open
pub data Left : Type 0 where
  whole : Tree → Left
  still : List Frame → Left

-- a value becomes a member of what is open around it, and each that lacks no more becomes one in turn
abbrev pub ends : List Frame → Tree → Left
ends [] t = whole t
ends (f ∷ fs) t =
    if nat_lt 1 f.lacks then still (waits (with_member f.opened t) (f.lacks - 1) f.first ∷ fs)
    else ends fs (tree_so_far (with_member f.opened t))

-- the bytes spell the value, which is sound and not too deep
pub record SpellsSound (t : Tree) (b : List ℕ) : Type 0 where
  pub spells : SpellsTree t b
  pub sound : IsSound t
  pub deep : depth t ≤ max_depth

-- The bytes spell the whole value; or they are what is still open.
abbrev pub Stands : Left → List ℕ → Type 0
Stands (whole t) b = SpellsSound t b
Stands (still fs) b = AreFrames fs b

-- It is held so: that the value is whole; or that it isn't, with what is still open in the array.
abbrev pub IsLeft : Left → Open → Type 0
IsLeft (whole t) o = o.is_whole ≡ true
IsLeft (still fs) o = (o.is_whole ≡ false) × AreLevels fs o.depth o.around

-- Something is open, the innermost is a list or a structure, and it lacks more than so many members.
pub record HasRoom (o : Open) (members : ℕ) : Type 0 where
  pub unread : o.is_whole ≡ false
  pub deep : 0 < o.depth
  pub last : Level
  pub there : slice_get o.around (o.depth - 1) ≡ Some last
  pub member : last.next ≡ inside.Member
  pub fewer : members < last.lacks

-- So many members of the innermost are passed, and others are still lacking: f may be any list or structure that lacks these.
pub record Passes (f : Frame) (fs : List Frame) (passed : ℕ) (o : Open) : Type 0 where
  pub member : next_of f.opened ≡ inside.Member
  pub fewer : passed < f.lacks
  pub levels : (g : Opened) → next_of g ≡ inside.Member
      → AreLevels (waits g (f.lacks - passed) f.first ∷ fs) o.depth o.around

-- what a head that announces this breaks at a place
abbrev pub head_fault : Place → Marker → Option Reason
head_fault p m =
    if is_text m then None
    else if is_some p.key then Some reason.KeyKind
    else if nests m && nat_le max_depth p.heads then Some reason.Depth
    else None
