use Rattle.std.proofs.Common.{◌≤◌, ◌-◌, ℕ, List, [], ◌∷◌, ◌++◌, length, drop, Option, refl, ap, subst, ◌∙◌, arith}
use Rattle.std.proofs.lemmas.List.{length-drop}
use Rattle.packstream_incremental.specs.declared.texts.Key.{Key}
use Rattle.packstream_incremental.specs.declared.texts.Link.{Link}
use Rattle.packstream_incremental.specs.Prelude.{Kept, names_of, IsNamed, IsFree}
use Rattle.packstream_incremental.proofs.Hanging.{text_from, moved, new_key, links, tree_hangs_at, names_after}
use Rattle.packstream_incremental.proofs.texts.Texts.join.Goals as goal

-- no key is this text, which may hang there
abbrev MayHang : ℕ → Option Link → List Key → List ℕ → List ℕ → Type 0
MayHang first above keys bytes s = (IsNamed (names_of keys) bytes first s → ⊥) × IsFree keys first s above

pub hang-requires : goal.hang-requires
hang-requires c =
    let h = moved (MayHang c.args.first c.in-Free.above) _ c.self.inside.keys.items _ c.self.inside.bytes.items _ (drop c.args.start c.self.inside.bytes.items)
    c.deref-2.ensures.value c.deref-3.ensures.value (text_from _ _ c.args.start c.deref.ensures.value) (c.in-Free.ensures.free c.in-Free.above refl) in
    links c.self.inside.keys.items c.args.first (drop c.args.start c.self.inside.bytes.items) c.in-Free.above h.1

pub invariant_of-self-in-Free : goal.invariant_of-self-in-Free
invariant_of-self-in-Free c =
    let keys = c.self.inside.keys.items in
    let bytes = c.self.inside.bytes.items in
    let text = text_from _ _ c.args.start c.deref.ensures.value in
    let h = moved (MayHang c.args.first c.in-Free.above) _ keys _ bytes _ (drop c.args.start bytes) c.deref-2.ensures.value c.deref-3.ensures.value text (c.in-Free.ensures.free c.in-Free.above refl) in
    let start : c.args.start ≤ length bytes = omega (arith, c.requires.start, ap (λ (v : Kept). length v.bytes) c.self.view_is) in
    let new = new_key keys bytes c.args.first c.args.start _ c.digest-digest.result c.in-Free.above start text c.digest-digest.ensures h.1 in
    rw c.in_ok-hang-in-Free.ensures.ok (tree_hangs_at keys bytes c.args.first (drop c.args.start bytes) _ c.in-Free.above c.self.invariant new refl)

pub returns-in_ok-hang-in-Free-clause-fresh : goal.returns-in_ok-hang-in-Free-clause-fresh
returns-in_ok-hang-in-Free-clause-fresh c = λ e.
    (let keys = c.self.inside.keys.items in
    let bytes = c.self.inside.bytes.items in
    let text = text_from _ _ c.args.start c.deref.ensures.value in
    let h = moved (MayHang c.args.first c.in-Free.above) _ keys _ bytes _ (drop c.args.start bytes) c.deref-2.ensures.value c.deref-3.ensures.value text (c.in-Free.ensures.free c.in-Free.above refl) in
    let len = ap length text ∙ length-drop c.args.start bytes in (
      subst (λ (v : Kept). IsNamed v.names v.bytes c.args.first (drop c.args.start v.bytes) → ⊥) c.self.view_is h.0,
      ap names_of c.in_ok-hang-in-Free.ensures.ok
          ∙ names_after c.in-Free.above (length keys) keys _
          ∙ ap (λ (n : ℕ). names_of keys ++ (record { start = c.args.start; len = n; first = c.args.first }) ∷ []) len
          ∙ ap (λ (v : Kept). v.names ++ (record { start = c.args.start; len = length v.bytes - c.args.start; first = c.args.first }) ∷ []) c.self.view_is,
    ))
