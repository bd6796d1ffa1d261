-- The rooms begin with what was read, and what is put at place 0 begins the memory.
use Rattle.rules.proofs.Offered.{arith, sym, length-take-le}
use Rattle.gearcard.proofs.TextInTurn.{begins}
use Rattle.reading.proofs.Rooms.{rooms}
use Rattle.gearcard.proofs.Jobs.{room_is, printed_done, printed-stop}
use Rattle.gearcard.proofs.text.answer.Goals as goal

pub slice_bounds-speeds-end : goal.slice_bounds-speeds-end
slice_bounds-speeds-end c =
    let w = rooms (c.in-Ok.ensures) in
    w.speeds_fit

pub slice_bounds-put_worked-end : goal.slice_bounds-put_worked-end
slice_bounds-put_worked-end c =
    let w = rooms (c.in-Ok.ensures) in
    sym (length-take-le _ _ w.speeds_fit)

pub slice_bounds-holds-end : goal.slice_bounds-holds-end
slice_bounds-holds-end c =
    let w = rooms (c.in-Ok.ensures) in
    w.holds_fit

pub slice_bounds-put_worked-end-in-Ok : goal.slice_bounds-put_worked-end-in-Ok
slice_bounds-put_worked-end-in-Ok c =
    let w = rooms (c.in-Ok.ensures) in
    sym (length-take-le _ _ w.holds_fit)

pub slice_bounds-card-end : goal.slice_bounds-card-end
slice_bounds-card-end c =
    let w = rooms (c.in-Ok.ensures) in
    w.few

pub slice_bounds-put_worked-end-in-Ok-2 : goal.slice_bounds-put_worked-end-in-Ok-2
slice_bounds-put_worked-end-in-Ok-2 c =
    let w = rooms (c.in-Ok.ensures) in
    sym (length-take-le _ _ w.few)

pub put_worked-requires-clause-speeds_len_bound : goal.put_worked-requires-clause-speeds_len_bound
put_worked-requires-clause-speeds_len_bound c =
    let w = rooms (c.in-Ok.ensures) in
    rw (length-take-le _ _ w.speeds_fit, room_is) w.few

pub put_worked-requires-clause-program_room_in_bounds : goal.put_worked-requires-clause-program_room_in_bounds
put_worked-requires-clause-program_room_in_bounds c = let e = room_is in omega (arith, e)

pub returns-in-Ok : goal.returns-in-Ok
returns-in-Ok c = begins (rw (printed_done _ _ _ (sym room_is) (sym room_is) c.in-Ok.ensures) at c.put_worked.ensures)

pub returns-in-Err : goal.returns-in-Err
returns-in-Err c = begins (rw (c.as_printed.ensures, printed-stop _ _ _ (sym room_is) (sym room_is) c.in-Err.ensures) at c.put_refusal.ensures)
