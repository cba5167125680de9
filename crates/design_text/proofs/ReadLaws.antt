-- What is read is a design text, what is a design text is read, and a refusal names the first bad line.
use Rattle.std.proofs.Common.{◌≡◌, ℕ, List, Result, Ok, Err, refl, sym, subst, ◌∙◌, arith}
use Rattle.std.specs.Prelude.{IfOk, IfErr}
use Rattle.duct_units.specs.Rules.{Gives, line_fault}
use Rattle.duct_units.specs.declared.fault.Fault.{Fault}
use Rattle.duct_units.specs.declared.fault.Reason.TheVariants.{Form}
use Rattle.duct_units.specs.declared.fault.ReadError.{ReadError}
use Rattle.duct_units.specs.declared.fault.ReadError.TheVariants.{Refused, NoMemory}
use Rattle.duct_definitions.specs.declared.listed.Listed.{Listed}
use Rattle.duct_definitions.specs.DesignText.{text}
use Rattle.design_text.specs.Texts.{IsInRange, IsTextOf, NamesBadLine, IsRefusal}
use Rattle.design_text.specs.Fields.{form_at}
use Rattle.design_text.specs.Reading.{reading}
use Rattle.design_text.proofs.Readers.{IsReader, reader_same, line_then, ok_err}
use Rattle.design_text.proofs.WholeTexts.{WholeOf, project_then, whole_read, reading_is}
use Rattle.design_text.proofs.TextForms.{texts_same}

text_read : IsReader IsTextOf 1 reading
text_read = reader_same WholeOf IsTextOf 1 1 (line_then 1 form_at (λ form. project_then form.0 form.1)) reading texts_same refl reading_is whole_read

same_Ok : (l m : Listed) → ◌≡◌ {A = Result Listed Fault} (Ok l) (Ok m) → l ≡ m
same_Ok l m e = cc

bad_line : (bytes : List ℕ) (fault : Fault) → reading bytes ≡ Err fault → NamesBadLine bytes fault
bad_line bytes fault e =
    let refused = text_read.err bytes fault e in
    let same : refused.bad ≡ refused.line = omega (arith, refused.place) in
    record {
      none = λ is. ok_err is.0 fault (sym e ∙ text_read.all bytes is.0 is.1);
      line = refused.bad;
      says = subst (λ n. fault ≡ line_fault n Form) (sym same) refused.says;
      first = refused.first;
    }

pub is_text : (bytes : List ℕ) (result : Result Listed ReadError) → Gives result (reading bytes) → IfOk result (λ l. IsTextOf l bytes)
is_text bytes (Ok l) gives = text_read.ok bytes l gives
is_text bytes (Err error) gives = tt

pub is_refusal : (bytes : List ℕ) (result : Result Listed ReadError) → Gives result (reading bytes) → IfErr result (IsRefusal bytes)
is_refusal bytes (Ok l) gives = tt
is_refusal bytes (Err (Refused fault)) gives = bad_line bytes fault gives
is_refusal bytes (Err NoMemory) gives = tt

-- a text of fields in range gives them back
pub text_again : (l : Listed) → IsInRange l → reading (text l) ≡ Ok l
text_again l fits = text_read.all (text l) l (record { in_range = fits; spelled = refl })

-- no text is that of two
pub text_alone : (l m : Listed) (bytes : List ℕ) → IsTextOf l bytes → IsTextOf m bytes → l ≡ m
text_alone l m bytes is also = same_Ok l m (sym (text_read.all bytes l is) ∙ text_read.all bytes m also)
