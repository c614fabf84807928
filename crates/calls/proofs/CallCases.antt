-- The cases of calls hold: each is computed. Assumes nothing.
use mathlib.Core.Path.{refl}
use Rattle.calls.specs.CallCases.{fresh_image, after_one, after_two, after_three, greatest_one, CallCases}
use Rattle.calls.proofs.Opened.{every_call}

pub call_cases : CallCases
unfolding every_call fresh_image after_one after_two after_three greatest_one
call_cases =
    record {
      fits_at_first = refl;
      fits_no_more = refl;
      refused_statuses = (refl, refl, refl, refl, refl, refl, refl);
      bad_capacity = refl;
      refused_leaves = (refl, refl);
      left_one = refl;
      not_left = refl;
      left_twice = refl;
      left_two = refl;
      left_three = refl;
      averaged = (refl, refl, refl);
      averaged_greatest = (refl, refl);
    }
