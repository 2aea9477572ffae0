use Rattle.std.proofs.Common.{◌≡◌, ◌⊎◌, inl, inr, ℕ, Bool, true, false, ◌∙◌, sym}
use Rattle.cli_commands.proofs.commands.command.Goals as goal

-- with no failed stream the status is what was said
status_said : (out err : Bool) (status said : ℕ) → (status ≡ said) ⊎ ((status ≡ 1) × ((out ≡ true) ⊎ (err ≡ true))) → out ≡ false → err ≡ false → status ≡ said
status_said out err status said (inl h) o e = h
status_said out err status said (inr (h, inl f)) o e = let bad : true ≡ false = sym f ∙ o in absurd cc
status_said out err status said (inr (h, inr f)) o e = let bad : true ≡ false = sym f ∙ e in absurd cc

pub returns-in-Ok-clause-says : goal.returns-in-Ok-clause-says
returns-in-Ok-clause-says g c =
    let put = c.put_said.ensures in
    inr (
      c.in-Ok.said,
      c.in-Ok.ensures.says,
      record {
        output = put.out;
        errors = put.err;
        ends = λ o e. status_said _ _ c.put_said.result c.in-Ok.said.status put.status o e;
        out_fails = put.out_fails;
        err_fails = put.err_fails;
        front = put.front;
        fault = put.fault;
      },
    )
