-- How payloads and posts are spelled.
use Rattle.std.proofs.Common.{refl, ◌≡◌, ◌⊎◌, inl, inr, ℕ}
use Rattle.dev_core.specs.Frame.{FrameData}
use Rattle.dev_core.specs.declared.payload.Finish.{Finish}
use Rattle.dev_core.specs.declared.payload.Finish.TheVariants as finish
use Rattle.dev_core.specs.declared.payload.Payload.{Payload}
use Rattle.dev_core.specs.declared.payload.Payload.TheVariants as payload
use Rattle.dev_core.specs.declared.post.Post.{Post}
use Rattle.lab_encoding.specs.Keys.{key_form, key_lawful, member_form, member_lawful}
use Rattle.lab_encoding.specs.Frames.{frame_form, frame_lawful}
use Rattle.lab_encoding.specs.Form.{Form, IsLawful}
use Rattle.lab_encoding.specs.Combine.{byte, choice, nothing, number, tagged, via, ◌⊗◌}
use Rattle.lab_encoding.specs.Inner.Laws.{avoids_choice, avoids_tagged, byte_lawful, choice_lawful, next_lawful}
use Rattle.lab_encoding.specs.Inner.Laws.{nothing_lawful, number_lawful, tagged_lawful, via_lawful}

abbrev pub finish_to : Finish → Unit {0} ⊎ ℕ
finish_to finish.Pass = inl tt
finish_to (finish.Fail x) = inr x

abbrev pub finish_from : Unit {0} ⊎ ℕ → Finish
finish_from (inl x) = finish.Pass
finish_from (inr x) = finish.Fail x

finish_again : (x : Finish) → finish_from (finish_to x) ≡ x
finish_again finish.Pass = refl
finish_again (finish.Fail x) = refl

finish_back : (a : Unit {0} ⊎ ℕ) → finish_to (finish_from a) ≡ a
finish_back (inl x) = refl
finish_back (inr x) = refl

-- 0 for a test that passed, or 1 and the code of one that failed
unfoldable pub finish_form : Form Finish
finish_form = via finish_to finish_from (choice 0 nothing (tagged 1 (number 2)))

pub finish_lawful : IsLawful finish_form
unfolding finish_form
finish_lawful =
    via_lawful _ _ finish_again finish_back
    (choice_lawful 0 (avoids_tagged (number 2) 0 1 refl) nothing_lawful
    (tagged_lawful 1 (number_lawful 2)))

abbrev pub payload_to : Payload → ℕ ⊎ (FrameData ⊎ Finish)
payload_to (payload.Byte x) = inl x
payload_to (payload.Frame x) = inr (inl x)
payload_to (payload.Finish x) = inr (inr x)

abbrev pub payload_from : ℕ ⊎ (FrameData ⊎ Finish) → Payload
payload_from (inl x) = payload.Byte x
payload_from (inr (inl x)) = payload.Frame x
payload_from (inr (inr x)) = payload.Finish x

payload_again : (x : Payload) → payload_from (payload_to x) ≡ x
payload_again (payload.Byte x) = refl
payload_again (payload.Frame x) = refl
payload_again (payload.Finish x) = refl

payload_back : (a : ℕ ⊎ (FrameData ⊎ Finish)) → payload_to (payload_from a) ≡ a
payload_back (inl x) = refl
payload_back (inr (inl x)) = refl
payload_back (inr (inr x)) = refl

-- 0 and a byte, 1 and a frame, or 2 and the end of a test
unfoldable pub payload_form : Form Payload
payload_form = via payload_to payload_from (choice 0 byte (choice 1 frame_form (tagged 2 finish_form)))

pub payload_lawful : IsLawful payload_form
unfolding payload_form
payload_lawful =
    via_lawful _ _ payload_again payload_back
    (choice_lawful 0 (avoids_choice frame_form (tagged 2 finish_form) 0 1 refl
    (avoids_tagged finish_form 0 2 refl)) byte_lawful
    (choice_lawful 1 (avoids_tagged finish_form 1 2 refl) frame_lawful
    (tagged_lawful 2 finish_lawful)))

-- the key, the sender and the payload
unfoldable pub post_form : Form Post
post_form =
    via (λ s. (s.key, (s.from, s.payload)))
    (λ (key, (from, payload)). record { key = key; from = from; payload = payload })
    (key_form ⊗ member_form ⊗ payload_form)

pub post_lawful : IsLawful post_form
unfolding post_form
post_lawful = via_lawful _ _ (λ x. refl) (λ a. refl) (next_lawful key_lawful (next_lawful member_lawful payload_lawful))
