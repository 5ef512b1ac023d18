-- How many messages there were.
use Rattle.std.specs.Prelude.{◌≡◌, ℕ, ◌+◌, ◌/◌, List, ◌++◌, length, count_by, codes, decimal}
use Rattle.amqp_perf.specs.declared.descriptor.Outcome.{Outcome}
use Rattle.clients_program.specs.Outcomes.{is_accepted, is_rejected}
use Rattle.clients_program.specs.declared.counts.ExchangeCounts.{ExchangeCounts}

-- so many were sent, and those that arrived were decided so
abbrev pub counts_of : ℕ → List Outcome → ExchangeCounts
counts_of sent decided = record {
  sent = sent;
  arrived = length decided;
  accepted = count_by is_accepted decided;
  rejected = count_by is_rejected decided;
}

-- of so many messages each was sent, arrived, and was accepted or rejected: each third was rejected
pub record IsWhole (count : ℕ) (counts : ExchangeCounts) : Type 0 where
  pub sent : counts.sent ≡ count
  pub arrived : counts.arrived ≡ count
  pub decided : counts.accepted + counts.rejected ≡ count
  pub rejected : counts.rejected ≡ count / 3

-- the line that tells them, without its newline (own format)
abbrev pub counts_line : ExchangeCounts → List ℕ
counts_line counts =
    decimal counts.sent ++ (codes " sent, " ++ (decimal counts.arrived ++ (codes " arrived, " ++ (decimal counts.accepted ++ (codes " accepted, " ++ (decimal counts.rejected ++ codes " rejected"))))))
