use Rattle.std.proofs.Common.{◌≡◌, refl, sym, ◌∙◌, Option, Some, None}
use Rattle.wl_control.specs.declared.request.Request.{Request}
use Rattle.wl_control.specs.Ends.{unfit, unread, called, lacks_memory}
use Rattle.wl_control.proofs.RequestWords.{is_unfit}
use Rattle.wl_control.proofs.program.control.Goals as goal

fits : (r : Option Request) (q : Request) (P : Type 0) → r ≡ Some q → r ≡ None → P
fits r q P some none = absurd (cc (some, none))

pub returns-in-Ok-make_call-clause-ends : goal.returns-in-Ok-make_call-clause-ends
returns-in-Ok-make_call-clause-ends g c = called c.in-Ok.request c.in-Ok.ensures.value c.in-Ok-make_call.ensures

pub returns-in-Ok-make_call-clause-unfit : goal.returns-in-Ok-make_call-clause-unfit
returns-in-Ok-make_call-clause-unfit g c = fits _ c.in-Ok.request _ c.in-Ok.ensures.value

pub returns-in-Ok-clause-ends : goal.returns-in-Ok-clause-ends
returns-in-Ok-clause-ends g c = called c.in-Ok.request c.in-Ok.ensures.value (lacks_memory c.in-Err.ensures)

pub returns-in-Ok-clause-unfit : goal.returns-in-Ok-clause-unfit
returns-in-Ok-clause-unfit g c = fits _ c.in-Ok.request _ c.in-Ok.ensures.value

pub returns-in-Err-Unfit-clause-ends : goal.returns-in-Err-Unfit-clause-ends
returns-in-Err-Unfit-clause-ends g c = unfit (is_unfit _ _ _ c.in-Err-Unfit.field-0-is c.in-Err-Unfit.ensures.unfit) refl

pub returns-clause-ends : goal.returns-clause-ends
returns-clause-ends g c = unread refl
