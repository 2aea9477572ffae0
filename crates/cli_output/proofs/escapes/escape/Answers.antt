use Rattle.std.proofs.lemmas.List.{map-id}
use Rattle.std.proofs.lemmas.Iterator.{YieldsList-from_chars}
use Rattle.std.proofs.lemmas.Iterator.Consumers.{YieldsList-end}
use Rattle.cli_output.proofs.Escapings.{ap, ◌∙◌, sym, flat_map, encode_utf8_all, append-nil, flat_map-append, encodes-append, is_clean, shown, escaped_same, escaped_clean}
use Rattle.cli_output.proofs.escapes.escape.Goals as goal

pub loop-c-preserved : goal.loop-c-preserved
loop-c-preserved c = rw (flat_map-append, append-nil, encodes-append, ← c.loop-c.invariant) c.in_ok-push_shown.ensures

pub returns : goal.returns
returns c =
    let text = c.args.text.now in
    let road = YieldsList-from_chars text c.utf8.text (cc) in
    let all = sym (map-id c.loop-c.yielded) ∙ (YieldsList-end road _ _ c.loop-c.yielded_by _ _ c.in-None.is c.next.ensures.steps).0 in
    let value = c.loop-c.invariant ∙ ap (λ cs. encode_utf8_all (flat_map shown cs)) all in
    record { value = value; clean = ap is_clean value ∙ escaped_clean text c.utf8.text; same = λ h. value ∙ escaped_same text c.utf8.text h }
