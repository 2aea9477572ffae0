-- The versions of the protocol, and what tells them apart: each difference is named here once, and every table and definition
-- above asks by its name.
use Rattle.std.specs.Prelude.{ℕ, Bool, true, false, not, List, [], ◌∷◌}
use Rattle.wire.specs.declared.versions.Version.{Version}
use Rattle.wire.specs.declared.versions.Version.TheVariants.{V44, V50, V51}

-- the versions that this product speaks, the newest first
abbrev pub versions : List Version
versions = V51 ∷ V50 ∷ V44 ∷ []

-- the numbers by which the handshake knows a version
abbrev pub major_of : Version → ℕ
major_of V44 = 4
major_of V50 = 5
major_of V51 = 5

-- the minor number of a version in the handshake
abbrev pub minor_of : Version → ℕ
minor_of V44 = 4
minor_of V50 = 0
minor_of V51 = 1

-- whether nodes and relationships have element ids beside their numbers
abbrev pub has_element_ids : Version → Bool
has_element_ids V44 = false
has_element_ids V50 = true
has_element_ids V51 = true

-- whether a date with a time and an offset, or a zone, has its seconds in UTC, under tags of its own
abbrev pub has_utc_times : Version → Bool
has_utc_times V44 = false
has_utc_times V50 = true
has_utc_times V51 = true

-- whether HELLO carries who the client is
abbrev pub hello_has_login : Version → Bool
hello_has_login V44 = true
hello_has_login V50 = true
hello_has_login V51 = false

-- whether there are LOGON and LOGOFF
abbrev pub has_logon : Version → Bool
has_logon V44 = false
has_logon V50 = false
has_logon V51 = true

-- The versions where a row of a table stands, as a test: each of them, or those that lack something. Where a row stands for what
-- a version has, the test is that word itself.
abbrev pub every_version : Version → Bool
every_version v = true

-- the versions that don't have what the test is for
abbrev pub lacks : (Version → Bool) → Version → Bool
lacks has v = not (has v)
