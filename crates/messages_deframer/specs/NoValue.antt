-- Of bytes that spell no value, what they are read as is their fault.
use Rattle.std.specs.Prelude.{refl, ℕ, List, Ok, Err}
use Rattle.std.proofs.Common.{ap}
use Rattle.packstream.specs.declared.fault.PackFault.{PackFault}
use Rattle.packstream.specs.declared.fault.PackFault.TheVariants as pack
use Rattle.packstream.specs.Tree.{Tree}
use Rattle.packstream.specs.Answers.{Tells, whole_of}
use Rattle.wire.specs.declared.Version.{Version}
use Rattle.messages.specs.Faults.{of_pack}
use Rattle.messages.specs.Table.{requests, responses}
use Rattle.messages.specs.declared.request.Request.{Request}
use Rattle.messages.specs.declared.response.Response.{Response}
use Rattle.messages.specs.View.{request_view, response_view}
use Rattle.messages.specs.Reading.{◌>>=◌, Answers}
use Rattle.messages.specs.Messages.{contents_by, request_held, request_of, response_held, response_of}

-- they stand for no request
pub no_request : (v : Version) (b : List ℕ) (p : PackFault) → Tells (λ (t : Tree). t) (Err p) (whole_of b)
    → Answers {X = Request} request_view (Err (of_pack p)) (request_of v b)
unfolding request_of
no_request v b (pack.Refused r o) told = λ other. ap (λ w. contents_by v requests w >>= λ s. Ok (request_held s)) told
no_request v b pack.Memory told = λ other. absurd (other refl)

-- and for no response
pub no_response : (v : Version) (b : List ℕ) (p : PackFault) → Tells (λ (t : Tree). t) (Err p) (whole_of b)
    → Answers {X = Response} response_view (Err (of_pack p)) (response_of v b)
unfolding response_of
no_response v b (pack.Refused r o) told = λ other. ap (λ w. contents_by v responses w >>= λ s. Ok (response_held s)) told
no_response v b pack.Memory told = λ other. absurd (other refl)
