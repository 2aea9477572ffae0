use Rattle.structures_decoder.proofs.Words.{◌≡◌, false, ◌-ℤ◌, rules, refl, to_z, of_z, w64, structure, has_utc_times, three}
use Rattle.structures_decoder.proofs.Laid.{has_fields, local_formed}
use Rattle.structures_decoder.proofs.moments.date_time_of.Goals as goal

pub returns-in-Some : goal.returns-in-Some
returns-in-Some g c =
    let s = c.in_ok-seconds.seconds in
    let n = c.in_ok-nanos.nanos in
    let o = c.in_ok-offset-in-70.offset in
    let z0 : to_z w64 (of_z w64 c.in_ok-nanos.nanos) ≡ c.in_ok-nanos.nanos = search rules in
    let z1 : to_z w64 (of_z w64 c.in_ok-offset-in-70.offset) ≡ c.in_ok-offset-in-70.offset = search rules in
    let lacks : has_utc_times c.args.scope.version ≡ false = search rules in
    let utc : to_z w64 (of_z w64 c.in-Some.utc) ≡ c.in_ok-seconds.seconds -ℤ c.in_ok-offset-in-70.offset = search rules in
    λ room. rw (c.in-70.is, z0, z1, local_formed c.args.scope.version s _ n o lacks utc) (has_fields c.args.scope room c.args.count 0x46 (structure 0x46 (three s n o)) (g.S.Source.left c.args.source) _ (three s n o) refl refl (search rules) (g.S.Source.left c.in_ok-seconds.rest, c.in_ok-seconds.ensures room, (g.S.Source.left c.in_ok-nanos.rest, c.in_ok-nanos.ensures room, (g.S.Source.left c.in_ok-offset-in-70.rest, c.in_ok-offset-in-70.ensures room, refl))))
