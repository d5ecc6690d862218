use Rattle.std.proofs.Common.{◌∙◌, sym, ap, subst}
use Rattle.std.specs.Result.{result_ok}
use Rattle.std.proofs.lemmas.Fmt.{parse-decimal}
use Rattle.lc_cli.proofs.Decimal.{HasPrefix, decimal-no_prefix, parsed-decimal}
use Rattle.lc_cli.proofs.number.parse_decimal.Goals as goal

pub returns-then-has_prefix-clause-found : goal.returns-then-has_prefix-clause-found
returns-then-has_prefix-clause-found c n small e = absurd (decimal-no_prefix n c.args.field.now small e (subst HasPrefix c.as_bytes.ensures.value (c.has_prefix.ensures.0 c.if-has_prefix.true)))

pub returns-clause-written : goal.returns-clause-written
returns-clause-written c = parsed-decimal _ _ _ c.ok.ensures.value c.parse.ensures.value.0
    (λ h. let prefixed = c.has_prefix.ensures.1 (subst HasPrefix (sym c.as_bytes.ensures.value) h) in let plain = c.if-has_prefix.false in cc)

pub returns-clause-found : goal.returns-clause-found
returns-clause-found c n small e = c.ok.ensures.value ∙ ap result_ok (parse-decimal 64 n c.args.field.now _ small small (sym e) c.parse.ensures.value.0)
