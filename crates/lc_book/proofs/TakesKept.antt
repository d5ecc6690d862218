-- Books of sums after a take.
use Rattle.std.proofs.Common.{ℕ, List, [], ◌∷◌, length, take, refl, sym, ap, ◌∙◌, arith}
use Rattle.std.specs.Prelude.{sum_by}
use Rattle.std.proofs.lemmas.List.{take-append-le}
use Rattle.std.proofs.lemmas.List.Sums.{sum_by_more, sum_by_more_le}
use Rattle.lc_frame.specs.declared.channel.Channel.{Channel}
use Rattle.lc_frame.specs.declared.frame.Frame.{Frame}
use Rattle.lc_frame.specs.Stream.{messages}
use Rattle.lc_frame.proofs.Measures.{messages-append}
use Rattle.lc_book.specs.Sums.{TakeKeepsSums, EveryTakeKeepsSums}
use Rattle.lc_book.proofs.SumsKept.{server_is}

take_keeps : (capacity : ℕ) (c : Channel) (put arrived : List Frame) (count : ℕ) → TakeKeepsSums capacity c put arrived count
take_keeps capacity c put arrived count = record {
  waits = λ more. omega (arith, sum_by_more_le length (messages c arrived) count [] more);
  takes = λ more. server_is _ _ refl refl refl (sym (sum_by_more length (messages c arrived) count [] more)) refl refl refl refl;
  stays = λ f enough. ap (sum_by length) (ap (take count) (messages-append c arrived (f ∷ [])) ∙ take-append-le count (messages c arrived) (messages c (f ∷ [])) enough);
}

pub every_take_keeps_sums : EveryTakeKeepsSums
every_take_keeps_sums capacity c put arrived count = take_keeps capacity c put arrived count
