-- The word of a form.
use Rattle.std.proofs.Common.{◌≡◌, ℕ, ◌^◌, ◌<◌, Some, None, Bool, true, false, refl, sym, ◌∙◌, ap, if◌then◌else◌}
use Rattle.isa_model.specs.Decode.{decoded, is_code, word_of}
use Rattle.isa_model.specs.declared.forms.Form.{Form}
use Rattle.rv_code.proofs.Laws.{code-decodes, code-small}
use Rattle.guest_asm.specs.Lines.{coded}

coded_by : (form f : Form) (w : ℕ) (b : Bool) → is_code form ≡ b → Some f ≡ (if b then Some form else None) → ((v : ℕ) → v < 2 ^ 32 → decoded v ≡ Some f → v ≡ w) → Some w ≡ (if b then Some (word_of form) else None)
coded_by form f w true e h only =
    let same : form ≡ f = cc in
    ap (λ x. Some x) (sym (only (word_of form) (code-small form e) (code-decodes form e ∙ ap (λ x. Some x) same)))
coded_by form f w false e h only = cc

pub coded_is : (form f : Form) (w : ℕ) → Some f ≡ (if is_code form then Some form else None) → ((v : ℕ) → v < 2 ^ 32 → decoded v ≡ Some f → v ≡ w) → Some w ≡ coded form
coded_is form f w h only = coded_by form f w (is_code form) refl h only
