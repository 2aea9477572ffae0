-- The table of the structures: tag, the versions where it stands, its fields, and those that come at the end where a version has
-- element ids ("Structure semantics").
use Rattle.std.specs.Prelude.{ℕ, List, [], ◌∷◌, ◌++◌, Bool, if◌then◌else◌, ◌==◌, Option, None, Some, Result, Ok, Err}
use Rattle.wire.specs.declared.Version.{Version}
use Rattle.wire.specs.Versions.{has_element_ids, has_utc_times, every_version, lacks}
use Rattle.structures_cells.specs.declared.table.Field.{Field}
use Rattle.structures_cells.specs.declared.table.Field.TheVariants.{Integer, Nanosecond, DayNanosecond, Offset, UtcSecond, Float, Text, Labels, Properties, Nodes, Relationships, Indices}
use Rattle.structures_cells.specs.declared.fault.Reason.{Reason}
use Rattle.structures_cells.specs.declared.fault.Reason.TheVariants.{UnknownTag, NotInVersion}

-- The tags. A date with a time and an offset, or a zone, has one for seconds in UTC, and a legacy one for local seconds.

-- a node: its labels and its properties
abbrev pub node_tag : ℕ
node_tag = 0x4E

-- a relationship, with the ids of the nodes at its ends
abbrev pub relationship_tag : ℕ
relationship_tag = 0x52

-- a relationship in a path, without the nodes at its ends
abbrev pub unbound_tag : ℕ
unbound_tag = 0x72

-- a path: nodes, relationships, and the indices of a walk over them
abbrev pub path_tag : ℕ
path_tag = 0x50

-- a date, as days since 1970-01-01
abbrev pub date_tag : ℕ
date_tag = 0x44

-- a time of day with an offset
abbrev pub time_tag : ℕ
time_tag = 0x54

-- a time of day without an offset
abbrev pub local_time_tag : ℕ
local_time_tag = 0x74

-- a date with a time, without an offset or a zone
abbrev pub local_date_time_tag : ℕ
local_date_time_tag = 0x64

-- a date with a time and an offset, in local seconds
abbrev pub legacy_date_time_tag : ℕ
legacy_date_time_tag = 0x46

-- a date with a time and an offset, in seconds in UTC
abbrev pub date_time_tag : ℕ
date_time_tag = 0x49

-- a date with a time and a named zone, in local seconds
abbrev pub legacy_zoned_tag : ℕ
legacy_zoned_tag = 0x66

-- a date with a time and a named zone, in seconds in UTC
abbrev pub zoned_tag : ℕ
zoned_tag = 0x69

-- a duration: months, days, seconds and nanoseconds
abbrev pub duration_tag : ℕ
duration_tag = 0x45

-- a point of two coordinates, with the number of their reference system
abbrev pub point_2d_tag : ℕ
point_2d_tag = 0x58

-- a point of three coordinates, with the number of their reference system
abbrev pub point_3d_tag : ℕ
point_3d_tag = 0x59

-- a row stands at the versions that pass its test
pub record Row : Type 0 where
  pub tag : ℕ
  pub stands : Version → Bool
  pub fields : List Field
  pub added : List Field

-- a row by its tag, its versions, its fields, and those that come with element ids
abbrev pub row : ℕ → (Version → Bool) → List Field → List Field → Row
row t s fs more = record { tag = t; stands = s; fields = fs; added = more }

-- the rows, by tag, versions, fields, and those that come with element ids
abbrev pub table : List Row
table =
    row node_tag every_version (Integer ∷ Labels ∷ Properties ∷ []) (Text ∷ [])
    ∷ row relationship_tag every_version (Integer ∷ Integer ∷ Integer ∷ Text ∷ Properties ∷ [])
    (Text ∷ Text ∷ Text ∷ [])
    ∷ row unbound_tag every_version (Integer ∷ Text ∷ Properties ∷ []) (Text ∷ [])
    ∷ row path_tag every_version (Nodes ∷ Relationships ∷ Indices ∷ []) []
    ∷ row date_tag every_version (Integer ∷ []) []
    ∷ row time_tag every_version (DayNanosecond ∷ Offset ∷ []) []
    ∷ row local_time_tag every_version (DayNanosecond ∷ []) []
    ∷ row local_date_time_tag every_version (Integer ∷ Nanosecond ∷ []) []
    ∷ row legacy_date_time_tag (lacks has_utc_times) (UtcSecond ∷ Nanosecond ∷ Offset ∷ []) []
    ∷ row date_time_tag has_utc_times (UtcSecond ∷ Nanosecond ∷ Offset ∷ []) []
    ∷ row legacy_zoned_tag (lacks has_utc_times) (Integer ∷ Nanosecond ∷ Text ∷ []) []
    ∷ row zoned_tag has_utc_times (Integer ∷ Nanosecond ∷ Text ∷ []) []
    ∷ row duration_tag every_version (Integer ∷ Integer ∷ Integer ∷ Nanosecond ∷ []) []
    ∷ row point_2d_tag every_version (Integer ∷ Float ∷ Float ∷ []) []
    ∷ row point_3d_tag every_version (Integer ∷ Float ∷ Float ∷ Float ∷ []) []
    ∷ []

-- the row of a tag
abbrev pub row_in : ℕ → List Row → Option Row
row_in t [] = None
row_in t (r ∷ rs) = if t == r.tag then Some r else row_in t rs

-- the fields of a row that stands at a version
abbrev pub fields_in : Version → List Field → List Field → List Field
fields_in v fs more = if has_element_ids v then fs ++ more else fs

-- the fields of a row at a version, where it stands there
abbrev pub fields_at : Version → (Version → Bool) → List Field → List Field
    → Result (List Field) Reason
fields_at v stands fs more = if stands v then Ok (fields_in v fs more) else Err NotInVersion

-- the fields of a tag's row
abbrev pub fields_of : Version → Option Row → Result (List Field) Reason
fields_of v None = Err UnknownTag
fields_of v (Some r) = fields_at v r.stands r.fields r.added

-- the fields of a structure with this tag
abbrev pub kinds : Version → ℕ → Result (List Field) Reason
kinds v tag = fields_of v (row_in tag table)
