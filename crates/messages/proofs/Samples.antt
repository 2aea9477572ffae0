-- Streams by their bytes.
use Rattle.messages.proofs.Words.{◌≡◌, [], ◌∷◌, ◌++◌, None, Some, refl, marker, items_at, struct_at, form_at, layer, inner, whole_of, V51, Newest, offer_of, version_answer, Reset, Ignored, request_of, response_of, Shook, NoMagic, Idle, Asked, Unread, arrivals, Chosen, Strange, Quiet, Told, hears}
use Rattle.messages.specs.declared.fault.MsgFault.TheVariants as fault

-- the offer of 5.1 and 4.4, a no-op, RESET, and half of a header
a_reset_arrives : arrivals (offer_of Newest ++ 0 ∷ 0 ∷ 0 ∷ 2 ∷ 0xB0 ∷ 0x0F ∷ 0 ∷ 0 ∷ 0 ∷ []) ≡ Shook (Some V51) ∷ Idle ∷ Asked Reset ∷ []
unfolding request_of whole_of layer inner form_at marker struct_at items_at
a_reset_arrives = refl

-- a structure without fields by the tag of no request, and then RESET
no_request_arrives : arrivals (offer_of Newest ++ 0 ∷ 2 ∷ 0xB0 ∷ 0x7E ∷ 0 ∷ 0 ∷ 0 ∷ 2 ∷ 0xB0 ∷ 0x0F ∷ 0 ∷ 0 ∷ []) ≡ Shook (Some V51) ∷ Unread fault.UnknownTag ∷ []
unfolding request_of whole_of layer inner form_at marker struct_at items_at
no_request_arrives = refl

-- an offer of version 3 alone, and then RESET
no_version_arrives : arrivals (0x60 ∷ 0x60 ∷ 0xB0 ∷ 0x17 ∷ 0 ∷ 0 ∷ 0 ∷ 3 ∷ 0 ∷ 0 ∷ 0 ∷ 0 ∷ 0 ∷ 0 ∷ 0 ∷ 0 ∷ 0 ∷ 0 ∷ 0 ∷ 0 ∷ 0 ∷ 2 ∷ 0xB0 ∷ 0x0F ∷ 0 ∷ 0 ∷ []) ≡ Shook None ∷ []
no_version_arrives = refl

-- the first bytes of a web request
no_magic_arrives : arrivals (0x47 ∷ 0x45 ∷ 0x54 ∷ 0x20 ∷ 0 ∷ 0 ∷ 1 ∷ 5 ∷ 0 ∷ 0 ∷ 0 ∷ 0 ∷ 0 ∷ 0 ∷ 0 ∷ 0 ∷ 0 ∷ 0 ∷ 0 ∷ 0 ∷ 0 ∷ 2 ∷ 0xB0 ∷ 0x0F ∷ 0 ∷ 0 ∷ []) ≡ NoMagic ∷ []
no_magic_arrives = refl

-- 5.1, a no-op and IGNORED, the newest first
ignored_is_heard : hears (version_answer (Some V51) ++ 0 ∷ 0 ∷ 0 ∷ 2 ∷ 0xB0 ∷ 0x7E ∷ 0 ∷ 0 ∷ []) ≡ Told Ignored ∷ Quiet ∷ Chosen (Some V51) ∷ []
unfolding response_of whole_of layer inner form_at marker struct_at items_at
ignored_is_heard = refl

-- the first bytes of a web response
strange_is_heard : hears (0x48 ∷ 0x54 ∷ 0x54 ∷ 0x50 ∷ 0x2F ∷ []) ≡ Strange ∷ []
strange_is_heard = refl
