use Rattle.std.proofs.Common.{arith, refl}
use Rattle.std.proofs.lemmas.Bool.Decides.{nat_tests}
use Rattle.wrapped_prims.proofs.KeepLemmas.{fault_found, kept_here}
use Rattle.wrapped_prims.proofs.handle.keep.Goals as goal

pub returns-then-has_no_place-clause-keeping : goal.returns-then-has_no_place-clause-keeping
returns-then-has_no_place-clause-keeping g c = (
  refl,
  fault_found _ _ c.args.from.now _ _ _ _ _
      (record { on = grind (arith, nat_tests); url_is = c.as_str.ensures; value_is = c.as_slice.ensures; placed = c.in-Some.ensures; checked = c.in-Ok.ensures.reading })
      c.if-has_no_place.ensures,
)

pub returns-else-has_no_place-clause-keeping : goal.returns-else-has_no_place-clause-keeping
returns-else-has_no_place-clause-keeping g c =
    kept_here _ _ c.args.from.now c.args.i _ _ _ _ _
    (record { on = grind (arith, nat_tests); url_is = c.as_str.ensures; value_is = c.as_slice.ensures; placed = c.in-Some.ensures; checked = c.in-Ok.ensures.reading })
    c.in-Ok.ensures.admitted c.if-has_no_place.ensures c.prefix-prefix.ensures.prefix
