-- Worked examples of why an exchange stopped.
use Rattle.std.proofs.Common.{refl, sym, ◌∙◌, ℕ, Ok, Err, List, [], ◌∷◌, true≢false, arith}
use Rattle.wire.specs.declared.Wish.{Wish}
use Rattle.driver.specs.declared.breaks.Break.TheVariants as break
use Rattle.driver.specs.Prelude.{Stand, heard_stand, Stops, at_first}
use Rattle.driver.proofs.Leading.{accepts_none, accepts_piece}

-- a new client, which waits for the answer to its offer
abbrev new_client : Stand
new_client = at_first Wish.Newest 0

-- It reads `HTTP`, which is no version: a bad answer.
abbrev http : List ℕ
http = 72 ∷ 84 ∷ 84 ∷ 80 ∷ []

a_web_server : Stops (Err break.BadAnswer) new_client (heard_stand new_client http) http []
a_web_server = record { before = new_client; earlier = []; accepts = accepts_none new_client; piece = http; refused = refl; after = refl; parts = refl }

-- It reads four zeros, by which the server accepts no version: the client has ended, and nothing is left to answer.
abbrev zeros : List ℕ
zeros = 0 ∷ 0 ∷ 0 ∷ 0 ∷ []

no_version : Stops (Ok tt) new_client (heard_stand new_client zeros) zeros []
no_version = ((refl, refl), accepts_piece new_client zeros 4 refl)

-- The server closes the connection at once.
closed_at_once : Stops (Err break.AtEnd) new_client new_client [] []
closed_at_once = (refl, (accepts_none new_client, refl))

-- This is no success, and memory didn't run out: no byte is left for which memory is needed.
not_success : Stops (Ok tt) new_client new_client [] [] → ⊥
not_success h = true≢false h.0.0

not_memory : (from to : Stand) (heard : List ℕ) → Stops (Err break.Memory) from to heard [] → ⊥
not_memory from to heard h = let some = h.1.1.some in omega (arith, some)

-- An exchange whose source ended isn't one whose client ended, and neither is a success.
not_both : (from to : Stand) (heard unheard : List ℕ) → Stops (Err break.AtEnd) from to heard unheard → Stops (Err break.Ended) from to heard unheard → ⊥
not_both from to heard unheard h k = true≢false (sym h.0 ∙ k.0.0)
