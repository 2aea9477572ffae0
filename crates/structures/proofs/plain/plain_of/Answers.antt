use Rattle.std.proofs.Common.{◌≡◌, ℕ, ◌-ℤ◌, ◌∷◌, [], Option, Some, None, refl, sym, ap, ◌∙◌, rules, arith, ne_eqb, to_z, of_z, w64}
use Rattle.std.proofs.lemmas.Int.{ints}
use Rattle.structures.proofs.Prelude.{Trees, trees, trees_of, Version, every_version, has_utc_times, lacks, Integer, Nanosecond, Float, Text, UnknownTag, Row, row_in, table, fields_of, fault, fault_by, shape-DateTime, shape-ZonedLocal, shape-ZonedUtc, shape-Duration, shape-Point2D, shape-Point3D}
use Rattle.structures.proofs.Got.{plain_is, local_is, sound_itself}
use Rattle.structures.proofs.plain.plain_of.Goals as goal

pub overflow_sub-utc : goal.overflow_sub-utc
overflow_sub-utc c =
    let d = local_is c.args.tag (trees_of (trees c.args.fields.now)) c.int_at-seconds.result c.int_at-nanos.result c.int_at-offset.result c.in-70.is c.requires.sound (c.int_at-seconds.ensures, (c.int_at-nanos.ensures, (c.int_at-offset.ensures, tt))) in
    omega (arith, ints, d.1.0, d.1.1)

pub returns-in-70 : goal.returns-in-70
returns-in-70 c =
    let d = local_is c.args.tag (trees_of (trees c.args.fields.now)) c.int_at-seconds.result c.int_at-nanos.result c.int_at-offset.result c.in-70.is c.requires.sound (c.int_at-seconds.ensures, (c.int_at-nanos.ensures, (c.int_at-offset.ensures, tt))) in
    let z-seconds : to_z w64 (of_z w64 c.int_at-seconds.result) ≡ c.int_at-seconds.result = search rules in
    let z-nanos : to_z w64 (of_z w64 c.int_at-nanos.result) ≡ c.int_at-nanos.result = search rules in
    let z-offset : to_z w64 (of_z w64 c.int_at-offset.result) ≡ c.int_at-offset.result = search rules in
    let z-utc : to_z w64 (of_z w64 (c.int_at-seconds.result -ℤ c.int_at-offset.result)) ≡ c.int_at-seconds.result -ℤ c.int_at-offset.result = omega (arith, ints, d.1.0, d.1.1) in
    shape-DateTime _ _ _ ∙ rw (z-seconds, z-offset, z-nanos, z-utc) d.0

pub returns-in_ok-text_at-in-102 : goal.returns-in_ok-text_at-in-102
returns-in_ok-text_at-in-102 c =
    let p = plain_is c.args.tag 0x66 (Integer ∷ Nanosecond ∷ Text ∷ []) (lacks has_utc_times) in
    search (rules, shape-ZonedLocal, p, c.int_at-in-102.ensures, c.int_at-in-102-2.ensures, c.in_ok-text_at-in-102.ensures)

pub returns-in_ok-text_at-in-105 : goal.returns-in_ok-text_at-in-105
returns-in_ok-text_at-in-105 c =
    let p = plain_is c.args.tag 0x69 (Integer ∷ Nanosecond ∷ Text ∷ []) has_utc_times in
    search (rules, shape-ZonedUtc, p, c.int_at-in-105.ensures, c.int_at-in-105-2.ensures, c.in_ok-text_at-in-105.ensures)

pub returns-in-69 : goal.returns-in-69
returns-in-69 c =
    let p = plain_is c.args.tag 0x45 (Integer ∷ Integer ∷ Integer ∷ Nanosecond ∷ []) every_version in
    search (rules, shape-Duration, p, c.int_at-in-69.ensures, c.int_at-in-69-2.ensures, c.int_at-in-69-3.ensures, c.int_at-in-69-4.ensures) depth 7

pub returns-in-88 : goal.returns-in-88
returns-in-88 c =
    let p = plain_is c.args.tag 0x58 (Integer ∷ Float ∷ Float ∷ []) every_version in
    search (rules, shape-Point2D, p, c.int_at-in-88.ensures, c.float_at.ensures, c.float_at-in-88.ensures)

pub returns-in-89 : goal.returns-in-89
returns-in-89 c =
    let p = plain_is c.args.tag 0x59 (Integer ∷ Float ∷ Float ∷ Float ∷ []) every_version in
    search (rules, shape-Point3D, p, c.int_at-in-89.ensures, c.float_at-in-89.ensures, c.float_at-in-89-2.ensures, c.float_at-in-89-3.ensures) depth 7

-- the table has no further row
no_row : (v : Version) (tag : ℕ) (ts : Trees) → row_in tag table ≡ None → fault v tag ts ≡ None → ⊥
no_row v tag ts none h =
    let e : Some UnknownTag ≡ None = sym (ap (λ (o : Option Row). fault_by (fields_of v o) tag ts) none) ∙ h in
    cc

pub unreachable-requires : goal.unreachable-requires
unreachable-requires c =
    let none : row_in c.args.tag table ≡ None =
    rw (ne_eqb c.args.tag 0x4E c.requires.plain.0, ne_eqb c.args.tag 0x52 c.requires.plain.1, ne_eqb c.args.tag 0x72 c.requires.plain.2, ne_eqb c.args.tag 0x50 c.requires.plain.3, ne_eqb c.args.tag 0x44 (omega arith), ne_eqb c.args.tag 0x54 (omega arith), ne_eqb c.args.tag 0x74 (omega arith), ne_eqb c.args.tag 0x64 (omega arith), ne_eqb c.args.tag 0x46 (omega arith), ne_eqb c.args.tag 0x49 (omega arith), ne_eqb c.args.tag 0x66 (omega arith), ne_eqb c.args.tag 0x69 (omega arith), ne_eqb c.args.tag 0x45 (omega arith), ne_eqb c.args.tag 0x58 (omega arith), ne_eqb c.args.tag 0x59 (omega arith)) refl in
    no_row c.requires.sound.version c.args.tag (trees_of (trees c.args.fields.now)) none (sound_itself c.args.tag _ c.requires.sound)
