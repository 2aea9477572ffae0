-- What the machine sees of a request: its kind, and whether it asks for a part of the rows.
use Rattle.std.specs.Prelude.{Bool, true, false, not, ◌&&◌, ◌||◌, ◌==◌}
use Rattle.wire.specs.declared.Version.{Version}
use Rattle.wire.specs.Versions.{major_of, minor_of, has_logon}
use Rattle.messages.specs.declared.request.Count.{Count}
use Rattle.messages.specs.View.{RequestView}
use Rattle.machine.specs.declared.kinds.Kind.{Kind}

-- the kind of a request
abbrev pub kind_of : RequestView → Kind
kind_of (RequestView.Hello agent auth) = Kind.Hello
kind_of (RequestView.Logon auth) = Kind.Logon
kind_of RequestView.Logoff = Kind.Logoff
kind_of RequestView.Goodbye = Kind.Goodbye
kind_of RequestView.Reset = Kind.Reset
kind_of (RequestView.Run text params mode token) = Kind.Run
kind_of (RequestView.Begin mode token) = Kind.Begin
kind_of RequestView.Commit = Kind.Commit
kind_of RequestView.Rollback = Kind.Rollback
kind_of (RequestView.Discard count) = Kind.Discard
kind_of (RequestView.Pull count) = Kind.Pull

-- a count that may leave rows
abbrev pub is_part : Count → Bool
is_part Count.All = false
is_part (Count.Of rows) = true

-- a PULL or DISCARD of so many rows, and not of all
abbrev pub in_part : RequestView → Bool
in_part (RequestView.Hello agent auth) = false
in_part (RequestView.Logon auth) = false
in_part RequestView.Logoff = false
in_part RequestView.Goodbye = false
in_part RequestView.Reset = false
in_part (RequestView.Run text params mode token) = false
in_part (RequestView.Begin mode token) = false
in_part RequestView.Commit = false
in_part RequestView.Rollback = false
in_part (RequestView.Discard count) = is_part count
in_part (RequestView.Pull count) = is_part count

-- the kinds that a version has with LOGON alone
abbrev pub is_with_logon : Kind → Bool
is_with_logon Kind.Logon = true
is_with_logon Kind.Logoff = true
is_with_logon _ = false

-- whether a version has requests of this kind; the version comes last, as in the table's rows
abbrev pub is_of : Version → Kind → Bool
is_of v k = not (is_with_logon k) || has_logon v

-- two names of one version, by its numbers
abbrev pub same_version : Version → Version → Bool
same_version v w = (major_of v == major_of w) && (minor_of v == minor_of w)

-- two names of one kind
abbrev pub same_kind : Kind → Kind → Bool
same_kind Kind.Hello Kind.Hello = true
same_kind Kind.Logon Kind.Logon = true
same_kind Kind.Logoff Kind.Logoff = true
same_kind Kind.Goodbye Kind.Goodbye = true
same_kind Kind.Reset Kind.Reset = true
same_kind Kind.Run Kind.Run = true
same_kind Kind.Begin Kind.Begin = true
same_kind Kind.Commit Kind.Commit = true
same_kind Kind.Rollback Kind.Rollback = true
same_kind Kind.Discard Kind.Discard = true
same_kind Kind.Pull Kind.Pull = true
same_kind _ _ = false

-- whether requests of this kind are RESET
abbrev pub is_reset : Kind → Bool
is_reset k = same_kind k Kind.Reset

-- whether requests of this kind are GOODBYE
abbrev pub is_goodbye : Kind → Bool
is_goodbye k = same_kind k Kind.Goodbye
