use Rattle.std.proofs.Common.{◌∙◌, sym}
use Rattle.process_state.proofs.Spaces.{image-begins, image-window, the_image, the_zygote, zygote-begins, zygote-window}
use Rattle.process_state.proofs.Updating.{can-update}
use Rattle.process_state.proofs.slots.spaces_can_be_updated.Goals as goal

pub returns-clause-image : goal.returns-clause-image
returns-clause-image c = λ s m p k sealed.
    can-update s m p k sealed the_image (image-window s m p k) s.image_notes s.image.starts
    (λ a. image-begins s m p k a ∙ sym (k.image.starts a)) k.cards.image (λ n noted. noted)

pub returns-clause-zygote : goal.returns-clause-zygote
returns-clause-zygote c = λ s m p k sealed.
    can-update s m p k sealed the_zygote (zygote-window s m p k) s.zygote_notes s.zygote.starts
    (λ a. zygote-begins s m p k a ∙ sym (k.zygote.starts a)) k.cards.zygote (λ n noted. noted)
