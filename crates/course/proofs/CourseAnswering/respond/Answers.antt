-- `course::CourseAnswering::respond` meets its contract.
use mathlib.Core.Path.{refl, sym}
use native.Mathlib.Omega.{arith}
use Rattle.course.proofs.Lines.{asked_of}
use Rattle.course.proofs.Scripts.{counted, roomy}
use Rattle.course.proofs.CourseAnswering.respond.Goals as goal

pub answer-requires : goal.answer-requires
answer-requires c =
    let room = roomy 1024 _ refl in
    omega (arith, c.request_of-request.ensures.result_bound, c.request_of-request.auto.numbers, room)

pub returns : goal.returns
returns c =
    let e = asked_of _ _ _ (sym (counted 1024 _ refl)) c.request_of-request.ensures.numbers_after in
    rw (← e) (record { page_after = c.answer.ensures.page_after; self_after = c.answer.ensures.self_after })
