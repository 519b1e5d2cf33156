-- What is put where nothing is shown.
use Rattle.std.proofs.Common.{◌≡◌, [], None, refl}
use Rattle.jc_commands.specs.declared.body.ReportBody.{ReportBody}
use Rattle.jc_commands.specs.declared.body.ReportBody.TheVariants as bodies
use Rattle.jc_commands.specs.ReportValue.{IsBare, CanShowAny, dir_in, puts_in}

pub bare_dir : (body : ReportBody) → IsBare body → dir_in body ≡ None
bare_dir (bodies.Bytes bytes) h = refl
bare_dir (bodies.Check check) h = absurd h
bare_dir (bodies.Row verdicts) h = refl

pub bare_puts : (body : ReportBody) → IsBare body → puts_in body ≡ []
bare_puts (bodies.Bytes bytes) h = refl
bare_puts (bodies.Check check) h = absurd h
bare_puts (bodies.Row verdicts) h = refl

pub bare_can : (body : ReportBody) → IsBare body → CanShowAny body
bare_can (bodies.Bytes bytes) h = tt
bare_can (bodies.Check check) h = absurd h
bare_can (bodies.Row verdicts) h = tt
