-- Demand 1 of the other C functions: the reader, the writer, the summary, the cycle, downscaling,
-- the export, the reasons of a second. Each answers as the function behind it, so all
-- that this function's Demands have holds of it too; number 0 exactly where nothing is refused, and any other number changes no byte.
use Rattle.std.specs.Prelude.{Result, Ok, Err}
use Rattle.std.specs.Result.{result_map_both}
use Rattle.rules.proofs.Offered.{ℕ, ◌≤◌, arith, ◌≡◌, refl, sym, ◌∙◌, ◌≢◌, ◌↔◌, pos, none, some, List, length, at, card, Fault, said, left}
use Rattle.rules.proofs.Offered.{left_some, Read, got, refused, job_read, read_fault, job_bytes, write_fault, write_room, summary, summary_fault}
use Rattle.rules.proofs.Offered.{counted_summary, why_fault, why, Told, told_or, told-when, summary_told, write-told, job-told}
use Rattle.rules.specs.Refusals.{Answer}
use Rattle.rules.specs.declared.Vehicle.{Vehicle}
use Rattle.rules.specs.declared.Summary.{Summary}
use Rattle.rules.specs.declared.Refusal.{Refusal}
use Rattle.rules.specs.declared.Refusal.TheVariants.{RoomLength, BadPart, BadFactor}
use Rattle.reading.specs.declared.Reading.{Reading}
use Rattle.reading.specs.Reader.{reading, ReadAs}
use Rattle.reading.proofs.Demands as reading-says
use Rattle.reading.proofs.Contracts.{read_beyond}
use Rattle.reading.proofs.Rooms.{beside_as}
use Rattle.writing.specs.Writing.{WriteAs}
use Rattle.writing.proofs.Demands as writing-says
use Rattle.writing.proofs.Contracts.{write_beyond}
use Rattle.summaries.proofs.Demands.{CountedOf, nine_whole}
use Rattle.cycles.specs.Parts.{fill_fault, fill_room}
use Rattle.cycles.proofs.Demands as cycles-says
use Rattle.cycles.proofs.Demands.{Filled}
use Rattle.downscale.specs.Steps.{down_fault, down_room}
use Rattle.downscale.proofs.Demands as downscale-says
use Rattle.downscale.proofs.Demands.{Scaled}
use Rattle.exports.specs.declared.Export.{Export}
use Rattle.exports.specs.Export.{export_read, figures_of, ExportAs}
use Rattle.exports.proofs.Told.{export_told}
use Rattle.exports.proofs.Accepted.{TwoRecords}
use Rattle.exports.proofs.Demands.{accepted_two}
use Rattle.reasons.specs.Says.{Shows}
use Rattle.reasons.proofs.Contracts.{why-told}
use Rattle.reasons.proofs.Theorems.{why_is_the_card}
use Rattle.capi.specs.declared.Verdict.{Verdict}
use Rattle.capi.specs.declared.JobAnswer.{JobAnswer}
use Rattle.capi.specs.declared.WriteAnswer.{WriteAnswer}
use Rattle.capi.specs.declared.SummaryAnswer.{SummaryAnswer}
use Rattle.capi.specs.declared.ExportAnswer.{ExportAnswer}
use Rattle.capi.specs.declared.WhyAnswer.{WhyAnswer}
use Rattle.capi.specs.Verdicts.{as_verdict, JobRead, JobWritten, ExportRead}
use Rattle.capi.proofs.Demands.{number_0, some_refusal}

-- the answer a, which brings x where it refuses nothing
abbrev pub brings : {A : Type 0} → Answer → A → Result A Refusal
brings a x = result_map_both (λ u. x) (λ f. f) a

-- ---- the reader

-- what it brings where it refuses nothing
abbrev pub reading_of : JobAnswer → Reading
reading_of r = record { version = r.version; vehicle = r.vehicle; count = r.count }

module _ {job speeds holds : List ℕ} {r : JobAnswer} {speeds' holds' : List ℕ} (R : JobRead job speeds holds r speeds' holds') where
  pub as_read : ReadAs job speeds holds (brings (job-told job (length speeds) (length holds)).answer (reading_of r)) speeds' holds'
  unfolding reading
  as_read =
      let told = job-told job (length speeds) (length holds) in
      beside_as job speeds holds told.answer (reading_of r) told.says R.the_version R.the_vehicle R.the_count R.speeds_left R.holds_left

  pub read-number_0 : (r.verdict.number ≡ 0) ↔ (read_fault (job_read job (length speeds) (length holds)) ≡ none)
  read-number_0 = rw R.answered (number_0 _ (job-told job (length speeds) (length holds)))

  pub read_untouched : r.verdict.number ≢ 0 → (speeds' ≡ speeds) × (holds' ≡ holds)
  unfolding reading
  read_untouched n =
      let q = some_refusal (read_fault (job_read job (length speeds) (length holds))) (rw (← R.answered) n) in
      reading-says.demand_1_untouched_read as_read q.0 (as_read.answered ∙ q.1)

  pub read_room_beyond : (i : ℕ) → r.count ≤ i → (at speeds' i ≡ at speeds i) × (at holds' i ≡ at holds i)
  unfolding reading
  read_room_beyond i l = read_beyond as_read i (rw (as_read.the_count, ← R.the_count) l)

-- ---- the writer

-- an answer and a length beside it, of which the contract of the writer holds
written_as : {v : ℕ} {car : Vehicle} {vs hs room room' : List ℕ} (a : Answer) (n : ℕ) → said a ≡ write_fault v car vs hs room
    → n ≡ left (write_fault v car vs hs room) 0 (length (job_bytes v car vs hs)) → room' ≡ write_room v car vs hs room
    → WriteAs v car vs hs room (brings a n) room'
unfolding said
written_as (Ok x) n e l r = record { answered = e; the_length = l; room_left = r }
written_as (Err f) n e l r = record { answered = e; the_length = sym (left_some _ _ (sym e)); room_left = r }

module _ {v : ℕ} {car : Vehicle} {vs hs room : List ℕ} {r : WriteAnswer} {room' : List ℕ} (W : JobWritten v car vs hs room r room') where
  pub as_written : WriteAs v car vs hs room (brings (write-told v car vs hs room).answer r.length) room'
  as_written = let told = write-told v car vs hs room in written_as told.answer r.length told.says W.the_length W.room_left

  pub write-number_0 : (r.verdict.number ≡ 0) ↔ (write_fault v car vs hs room ≡ none)
  write-number_0 = rw W.answered (number_0 _ (write-told v car vs hs room))

  pub write_untouched : r.verdict.number ≢ 0 → (room' ≡ room) × (r.length ≡ 0)
  write_untouched n =
      let q = some_refusal (write_fault v car vs hs room) (rw (← W.answered) n) in
      ((writing-says.demand_1_untouched_write as_written q.0 (as_written.answered ∙ q.1)).0, W.the_length ∙ left_some _ _ q.1)

  pub write_room_beyond : (i : ℕ) → r.length ≤ i → at room' i ≡ at room i
  write_room_beyond i l = write_beyond as_written i (rw (as_written.the_length, ← W.the_length) l)

-- ---- the summary of a card

-- what the contract says
pub record CCounted (vs bs : List ℕ) (r : SummaryAnswer) : Type 0 where
  pub answer : r.verdict ≡ as_verdict (summary_fault vs bs)
  pub summary_told : r.summary ≡ counted_summary vs bs

-- an answer and a summary beside it, of which the contract of counting holds
counted_as : {vs bs : List ℕ} (a : Answer) (n : Summary) → said a ≡ summary_fault vs bs → n ≡ counted_summary vs bs → CountedOf vs bs (brings a n)
unfolding said counted_summary
counted_as (Ok x) n e c = record { answer = e; summary_told = c }
counted_as (Err f) n e c = record { answer = e; summary_told = sym (left_some _ _ (sym e)) }

module _ {vs bs : List ℕ} {r : SummaryAnswer} (C : CCounted vs bs r) where
  pub as_counted : CountedOf vs bs (brings (summary_told vs bs).answer r.summary)
  as_counted = let told = summary_told vs bs in counted_as told.answer r.summary told.says C.summary_told

  pub summary-number_0 : (r.verdict.number ≡ 0) ↔ (summary_fault vs bs ≡ none)
  summary-number_0 = rw C.answer (number_0 _ (summary_told vs bs))

  pub summary-whole : r.verdict.number ≡ 0 → r.summary ≡ summary vs bs
  summary-whole n = C.summary_told ∙ sym as_counted.summary_told ∙ nine_whole as_counted (as_counted.answer ∙ summary-number_0.0 n)

-- ---- the cycle, and the cycle scaled down

pub fill-told : (part n : ℕ) → Told (fill_fault part n)
unfolding fill_fault
fill-told part n = told_or _ _ (told-when 18 0 (BadPart, refl) _) (told-when 2 0 (RoomLength, refl) _)

pub down_told : (factor n : ℕ) → Told (down_fault factor n)
unfolding down_fault
down_told factor n = told_or _ _ (told-when 23 0 (BadFactor, refl) _) (told-when 2 0 (RoomLength, refl) _)

-- what the contracts say
pub record CFilled (part : ℕ) (room : List ℕ) (z : Verdict) (room' : List ℕ) : Type 0 where
  pub answer : z ≡ as_verdict (fill_fault part (length room))
  pub room_left : room' ≡ fill_room part room

pub record CScaled (factor : ℕ) (room : List ℕ) (z : Verdict) (room' : List ℕ) : Type 0 where
  pub answer : z ≡ as_verdict (down_fault factor (length room))
  pub room_left : room' ≡ down_room factor room

module _ {part : ℕ} {room : List ℕ} {z : Verdict} {room' : List ℕ} (F : CFilled part room z room') where
  pub as_filled : Filled part room (fill-told part (length room)).answer room'
  as_filled = record { answer = (fill-told part (length room)).says; room_left = F.room_left }

  pub cycle-number_0 : (z.number ≡ 0) ↔ (fill_fault part (length room) ≡ none)
  cycle-number_0 = rw F.answer (number_0 _ (fill-told part (length room)))

  pub cycle_untouched : z.number ≢ 0 → room' ≡ room
  cycle_untouched n =
      let q = some_refusal (fill_fault part (length room)) (rw (← F.answer) n) in
      cycles-says.demand_1_untouched as_filled q.0 ((fill-told part (length room)).says ∙ q.1)

module _ {factor : ℕ} {room : List ℕ} {z : Verdict} {room' : List ℕ} (S : CScaled factor room z room') where
  pub as_scaled : Scaled factor room (down_told factor (length room)).answer room'
  as_scaled = record { answer = (down_told factor (length room)).says; room_left = S.room_left }

  pub downscale-number_0 : (z.number ≡ 0) ↔ (down_fault factor (length room) ≡ none)
  downscale-number_0 = rw S.answer (number_0 _ (down_told factor (length room)))

  pub downscale_untouched : z.number ≢ 0 → room' ≡ room
  downscale_untouched n =
      let q = some_refusal (down_fault factor (length room)) (rw (← S.answer) n) in
      downscale-says.demand_1_untouched as_scaled q.0 ((down_told factor (length room)).says ∙ q.1)

-- ---- the export

-- where a fault is read, reading was refused by it
was_refused : {A : Type 0} (m : Read A) {q : Fault} → some q ≡ read_fault m → m ≡ refused q
unfolding read_fault
was_refused (got x end) e = let z : ◌≡◌ {A = ℕ} 0 1 = cc in absurd (omega arith)
was_refused (refused f) e = cc

-- what the reader of the export brings where it refuses nothing
abbrev pub export_of : ExportAnswer → Export
export_of r = record { f0 = r.f0; f1 = r.f1; f2 = r.f2; tm = r.tm }

-- an answer and figures beside it, of which its contract holds
export_as : (bytes : List ℕ) (a : Answer) (x : Export) → said a ≡ read_fault (export_read bytes 0) → pos x.f0 ≡ (figures_of (export_read bytes 0)).f0
    → x.f1 ≡ (figures_of (export_read bytes 0)).f1 → pos x.f2 ≡ (figures_of (export_read bytes 0)).f2
    → pos x.tm ≡ (figures_of (export_read bytes 0)).tm → ExportAs bytes (brings a x)
unfolding said figures_of
export_as bytes (Ok u) x e f0 f1 f2 tm = record { answered = e; the_f0 = f0; the_f1 = f1; the_f2 = f2; the_tm = tm }
export_as bytes (Err f) x e f0 f1 f2 tm =
    let m = was_refused (export_read bytes 0) e in
    record { answered = e; the_f0 = rw m; the_f1 = rw m; the_f2 = rw m; the_tm = rw m }

module _ {bytes : List ℕ} {r : ExportAnswer} (E : ExportRead bytes r) where
  pub as_export : ExportAs bytes (brings (export_told bytes).answer (export_of r))
  as_export = export_as bytes (export_told bytes).answer (export_of r) (export_told bytes).says E.the_f0 E.the_f1 E.the_f2 E.the_tm

  pub export_number_0 : (r.verdict.number ≡ 0) ↔ (read_fault (export_read bytes 0) ≡ none)
  export_number_0 = rw E.answered (number_0 _ (export_told bytes))

  -- request Five: accepted is exactly two records, of different kinds, and the end
  pub export_two_records : r.verdict.number ≡ 0 → TwoRecords bytes
  export_two_records n = accepted_two (export_number_0.0 n)

-- ---- the reasons of a second

-- what the contract says
pub record CWhy (car : Vehicle) (vs hs : List ℕ) (s : ℕ) (r : WhyAnswer) : Type 0 where
  pub answer : r.verdict ≡ as_verdict (why_fault car vs hs s)
  pub reasons_told : r.reasons ≡ why car vs hs s

module _ {car : Vehicle} {vs hs : List ℕ} {s : ℕ} {r : WhyAnswer} (W : CWhy car vs hs s r) where
  pub why-number_0 : (r.verdict.number ≡ 0) ↔ (why_fault car vs hs s ≡ none)
  why-number_0 = rw W.answer (number_0 _ (why-told car vs hs s))

  -- accepted, the last gear of the chain is the card's gear, and the clutch the card's bit
  pub why_shows : r.verdict.number ≡ 0 → Shows r.reasons (at (card car vs hs) s)
  why_shows n = rw W.reasons_told (why_is_the_card car vs hs s (why-number_0.0 n))
