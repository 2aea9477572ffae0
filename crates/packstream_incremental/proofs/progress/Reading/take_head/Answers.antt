use Rattle.std.proofs.Common.{◌≡◌, ◌+◌, ◌++◌, ℕ, [], length, Option, ap, sym, subst, ◌∙◌, arith}
use Rattle.packstream.specs.declared.marker.Marker.{Marker}
use Rattle.packstream.specs.Prelude.{AreBytes, marker}
use Rattle.packstream.proofs.Ranges.{bytes_from_each, front_bytes}
use Rattle.packstream_incremental.specs.Prelude.{field, body, number_from, Holds, holds, Goes, HasTaken}
use Rattle.packstream_incremental.specs.declared.progress.Part.{Part}
use Rattle.packstream_incremental.specs.declared.progress.Part.TheVariants as part
use Rattle.packstream_incremental.proofs.Heads.{joined_fits, fits_word}
use Rattle.packstream_incremental.proofs.Taking.{parted, stored, stored_is, head_longer, head_whole, part_taken}
use Rattle.packstream_incremental.proofs.progress.Reading.take_head.Goals as goal

pub join-requires : goal.join-requires
join-requires c =
    let g = c.requires.goes in
    let bytes = c.args.bytes.now in
    fits_word (c.args.has + length bytes) (number_from c.args.number bytes) (omega (arith, c.field_len.ensures.few)) (joined_fits c.args.has c.args.number bytes (bytes_from_each bytes c.type_inv.bytes) g.isa.small)

pub returns-then-bytes-lacks-clause-told : goal.returns-then-bytes-lacks-clause-told
returns-then-bytes-lacks-clause-told c =
    let h : Holds = holds c.args.self.now in
    let g = c.requires.goes in
    let m = c.args.marker in
    let bytes = c.args.bytes.now in
    let are = bytes_from_each bytes c.type_inv.bytes in
    let wide : c.field_len.result ≡ field (marker m) = c.field_len.ensures.value ∙ ap field (sym c.requires.announced) in
    let p : ℕ → Part = λ n. part.Head m n (c.args.has + length bytes) in
    let same = ap (λ (x : Holds). parted (p c.join.result) x) (stored_is h c.extend.new.self.bytes bytes c.extend.new.self.names c.in_ok-extend.ensures.ok c.in_ok-extend.ensures.keys)
    ∙ ap (λ (n : ℕ). parted (p n) (stored bytes h)) c.join.ensures in
    subst (λ (x : Holds). HasTaken (h.store ++ bytes) x []) (sym same)
    (part_taken (stored bytes h) (p (number_from c.args.number bytes)) (head_longer h m c.args.number c.args.has bytes are g (omega (arith, wide))) (omega (arith, wide)) c.requires.good)

pub join-number-requires : goal.join-number-requires
join-number-requires c =
    let g = c.requires.goes in
    let front = c.split_at.result.0.now in
    let are = front_bytes front c.split_at.result.1.now (subst AreBytes c.split_at.ensures.by_index.0 (bytes_from_each c.args.bytes.now c.type_inv.bytes)) in
    let wide : c.field_len.result ≡ field (marker c.args.marker) = c.field_len.ensures.value ∙ ap field (sym c.requires.announced) in
    fits_word (c.args.has + length front) (number_from c.args.number front) (omega (arith, c.field_len.ensures.few, c.split_at.ensures.front_len, wide, g.isa.few)) (joined_fits c.args.has c.args.number front are g.isa.small)

pub take_body-requires-clause-goes : goal.take_body-requires-clause-goes
take_body-requires-clause-goes c =
    let h : Holds = holds c.args.self.now in
    let g = c.requires.goes in
    let m = c.args.marker in
    let front = c.split_at.result.0.now in
    let are = front_bytes front c.split_at.result.1.now (subst AreBytes c.split_at.ensures.by_index.0 (bytes_from_each c.args.bytes.now c.type_inv.bytes)) in
    let wide : c.field_len.result ≡ field (marker m) = c.field_len.ensures.value ∙ ap field (sym c.requires.announced) in
    let len : c.args.has + length front ≡ field (marker m) = omega (arith, c.split_at.ensures.front_len, wide, g.isa.few) in
    let body_is : c.body_len.result ≡ body (marker m) (number_from c.args.number front) = c.body_len.ensures ∙ ap (λ (o : Option Marker). body o c.join-number.result) (sym c.requires.announced) ∙ ap (λ (n : ℕ). body (marker m) n) c.join-number.ensures in
    let same = stored_is h c.extend-2.new.self.bytes front c.extend-2.new.self.names c.in_ok-extend-2.ensures.ok c.in_ok-extend-2.ensures.keys in
    subst (λ (x : Holds). Goes x (part.Body m c.join-number.result c.body_len.result)) (sym same)
    (subst (λ (n : ℕ). Goes (stored front h) (part.Body m c.join-number.result n)) (sym body_is)
    (subst (λ (n : ℕ). Goes (stored front h) (part.Body m n (body (marker m) (number_from c.args.number front)))) (sym c.join-number.ensures) (head_whole h m c.args.number c.args.has front are g len)))
