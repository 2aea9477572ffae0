use Rattle.std.proofs.Common.{◌≡◌, ◌<◌, ◌↔◌, ℕ, Bool, List, length, Option, Some, None, true, false, sym, ap, subst, ◌∙◌, arith, get_or, slice_get, IsTrue}
use Rattle.std.proofs.lemmas.Option.{slice_get-get_or, slice_get_within, get_or_from_slice_get}
use Rattle.packstream_incremental.specs.declared.texts.Key.{Key}
use Rattle.packstream_incremental.specs.declared.texts.Link.{Link}
use Rattle.packstream_incremental.specs.Prelude.{name, names_of, text_of, IsNamed, IsFree, HangsOn, HangsNone, side_of}
use Rattle.packstream_incremental.proofs.Treeing.{search_starts, search_finds, search_goes_on, search_ends, search_is_over}
use Rattle.packstream_incremental.proofs.texts.find.Goals as goal

pub returns-then-first-keys-clause-free : goal.returns-then-first-keys-clause-free
returns-then-first-keys-clause-free c = λ l e.
    (let same : ◌≡◌ {A = Option Link} None l = cc in
    subst (λ (x : Option Link). (IsNamed (names_of c.args.keys.now) c.args.bytes.now c.args.first c.args.text.now → ⊥) × IsFree c.args.keys.now c.args.first c.args.text.now x) same
    (search_is_over c.args.keys.now c.args.bytes.now c.args.first c.args.text.now c.requires.tree c.requires.root (omega arith)))

pub loop-at-init : goal.loop-at-init
loop-at-init c = search_starts c.args.keys.now c.args.bytes.now c.args.first c.args.text.now c.requires.tree c.requires.root (omega arith)

-- what stands outside a list
abbrev nothing : Key
nothing = record { start = 0; len = 0; digest = 0; first = 0; above = None; left = 0; right = 0 }

pub is_same-requires : goal.is_same-requires
is_same-requires c =
    let keys = c.args.keys.now in
    let p = c.requires.tree c.loop-at.at (get_or keys c.loop-at.at nothing) (slice_get-get_or keys c.loop-at.at nothing c.loop-at-test.true) in
    record { within = p.within; digest = p.digest; of_text = c.requires.digest }

pub returns-then-is_same-clause-again : goal.returns-then-is_same-clause-again
returns-then-is_same-clause-again c = λ e.
    (let keys = c.args.keys.now in
    search_finds keys c.args.bytes.now c.args.first c.args.text.now c.loop-at.above c.loop-at.at (get_or keys c.loop-at.at nothing) c.loop-at.invariant (slice_get-get_or keys c.loop-at.at nothing c.loop-at-test.true)
    (c.is_same.ensures.0 c.if-is_same.true))

-- the key there is another
other_key : (keys : List Key) (bytes s : List ℕ) (at : ℕ) (d : Key) (b : Bool) → at < length keys → (IsTrue b ↔ (text_of bytes (name (get_or keys at d)) ≡ s)) → b ≡ false → (k : Key) → slice_get keys at ≡ Some k → text_of bytes (name k) ≡ s → ⊥
other_key keys bytes s at d b lt h e k is t =
    let same : get_or keys at d ≡ k = get_or_from_slice_get keys at k d is in
    let passed : b ≡ true = h.1 (ap (λ (x : Key). text_of bytes (name x)) same ∙ t) in cc

none_hangs : (keys : List Key) (first at : ℕ) (side : Bool) (r : Option ℕ) → ((next : ℕ) → (r ≡ Some next) ↔ HangsOn keys first at side next) → r ≡ None → HangsNone keys first at side
none_hangs keys first at side r h e = λ next hang. (let f : ◌≡◌ {A = Option ℕ} None (Some next) = sym e ∙ (h next).1 hang in cc)

pub returns-in_default-clause-free : goal.returns-in_default-clause-free
returns-in_default-clause-free c = λ l e.
    (let keys = c.args.keys.now in
    let same : ◌≡◌ {A = Option Link} (Some (record { key = c.loop-at.at; is_right = c.is_right-side.result })) l = cc in
    subst (λ (x : Option Link). (IsNamed (names_of c.args.keys.now) c.args.bytes.now c.args.first c.args.text.now → ⊥) × IsFree c.args.keys.now c.args.first c.args.text.now x) same
    (search_ends keys c.args.bytes.now c.args.first c.args.text.now c.loop-at.above c.loop-at.at c.is_right-side.result c.loop-at.invariant
    (other_key keys c.args.bytes.now c.args.text.now c.loop-at.at nothing c.is_same.result c.loop-at-test.true c.is_same.ensures c.if-is_same.false)
    (c.is_right-side.ensures ∙ ap (λ (d : ℕ). side_of d c.args.text.now c.loop-at.above) c.requires.digest)
    (none_hangs keys c.args.first c.loop-at.at c.is_right-side.result c.below.result c.below.ensures c.in_default.is)))

pub loop-at-smaller : goal.loop-at-smaller
loop-at-smaller c =
    let h = (c.below.ensures c.in-Some.next).0 c.in-Some.is in
    let within = slice_get_within c.args.keys.now c.in-Some.next h.lower h.lower_is in
    omega (arith, h.later, within)

pub loop-at-preserved : goal.loop-at-preserved
loop-at-preserved c =
    let keys = c.args.keys.now in
    let h = (c.below.ensures c.in-Some.next).0 c.in-Some.is in
    let side = c.is_right-side.ensures ∙ ap (λ (d : ℕ). side_of d c.args.text.now c.loop-at.above) c.requires.digest in
    search_goes_on keys c.args.bytes.now c.args.first c.args.text.now c.loop-at.above c.loop-at.at c.in-Some.next c.loop-at.invariant
    (other_key keys c.args.bytes.now c.args.text.now c.loop-at.at nothing c.is_same.result c.loop-at-test.true c.is_same.ensures c.if-is_same.false)
    (subst (λ (b : Bool). HangsOn keys c.args.first c.loop-at.at b c.in-Some.next) side h)

pub returns-clause-again : goal.returns-clause-again
returns-clause-again c = λ e. absurd (omega (arith, slice_get_within c.args.keys.now c.loop-at.at c.loop-at.invariant.upper.0 c.loop-at.invariant.upper.1))
