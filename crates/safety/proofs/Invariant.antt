-- THE INVARIANT. It has three parts: what holds of the ghost, of each server and of each letter. A step of one server then owes only its
-- own part; what holds of the others is kept by one lemma (Frame). Beside each promise stands the name of the promise of the original
-- proof that it answers to. Definitions, no proof.
--
-- Two ideas make it small. First, each log matches, at each of its entries, the log of the leader of that entry's term: log matching is
-- then no induction. Second, leader completeness is no part of it: what is kept is an implication (`keeps`) from which it follows in any
-- one world, by induction on the term (LeaderCompleteness).
use Rattle.std.proofs.Common.{◌≡◌, ℕ, suc, ◌+◌, ◌<◌, ◌≤◌, Bool, true, false, List, [], ◌∷◌, ◌++◌, length}
use Rattle.servers.specs.Store.{pick}
use Rattle.servers.specs.Server.{Entry, last_index, last_term, up_to, entry_at, nth, empty, State, Message, ask_vote, vote, append}
use Rattle.servers.specs.Server.{appended}
use Rattle.servers.specs.World.{Sent, In}
use Rattle.safety.proofs.Logs.{Contiguous, Ascending}
use Rattle.safety.proofs.Quorums.{Quorum}
use Rattle.safety.proofs.Ghost.{just, nothing, Ballot, Election, Ghost, VotedFor, Ack, Acked, CommittedPrefix, Inherits, UpToDate}

-- LOGS

-- up to n, log l is what the leader of term t had
pub record FromLeader (γ : Ghost) (l : List Entry) (n t : ℕ) : Type 0 where
  pub election : Election
  pub elected : γ.elected t ≡ just election
  pub same : up_to n l ≡ up_to n (γ.leader_log t)

pub record ValidLog (γ : Ghost) (l : List Entry) (t : ℕ) : Type 0 where
  -- indices are 1, 2, 3 .. (Sorted, UniqueIndices, TermsAndIndicesFromOne, the contiguity of LogMatching)
  pub contiguous : Contiguous l
  -- terms begin at 1, never fall, and are not beyond t (Sorted, TermSanity, TermsAndIndicesFromOne)
  pub ascending : Ascending l t
  -- each entry was made by the leader of its term, and what is before it is as there (LogMatching, LeaderSublog, EveryEntryWasCreated,
  -- CandidateEntries, LogsLeaderLogs, PrefixWithinTerm)
  pub matching : (n : ℕ) (e : Entry) → entry_at n l ≡ e ∷ [] → FromLeader γ l n e.term

-- THE GHOST

-- of the vote that v cast in term t
pub record ValidBallot (γ : Ghost) (sent : List Sent) (v t : ℕ) (b : Ballot) : Type 0 where
  -- its log was a log (VotesWithLogSorted, VotesWithLogTermSanity)
  pub log : ValidLog γ b.log t
  -- it went to one that voted for itself, with a log at least as up to date (CandidatesVoteForSelves, VotedForMoreUpToDate,
  -- RequestVoteReplyMoreUpToDate, VotesReceivedMoreUpToDate)
  pub own : Ballot
  pub own_cast : γ.ballot b.candidate t ≡ just own
  pub own_self : own.candidate ≡ b.candidate
  pub up_to_date : UpToDate own.log b.log
  -- who votes for itself has only entries of earlier terms (CandidateTermGtLog, LeaderLogsTermSanity)
  pub earlier : own.candidate ≡ v → last_term b.log < t
  -- what v had acknowledged of an earlier term was in its log when it voted, if the elections between inherited it
  -- (AllEntriesVotesWithLog, and the heart of LeaderCompleteness)
  pub keeps : (u n : ℕ) → u < t → Acked γ sent v u n → ((x : ℕ) → u < x → x < t → Inherits γ n u x)
      → up_to n b.log ≡ up_to n (γ.leader_log u)

-- of the election of term t
pub record ValidElection (k : ℕ) (γ : Ghost) (t : ℕ) (r : Election) : Type 0 where
  -- a quorum voted for the winner (CroniesCorrect, CandidateEntries)
  pub votes : Quorum k (VotedFor γ t r.leader)
  -- who voted for itself with the log that it won with (LeaderLogsVotesWithLog)
  pub own : γ.ballot r.leader t ≡ just (record { candidate = r.leader; log = r.log })
  -- and has only added to that log since (LeadersHaveLeaderLogsStrong, LeaderLogsPreserved)
  pub start : up_to (last_index r.log) (γ.leader_log t) ≡ r.log

pub record GhostInvariant (k : ℕ) (γ : Ghost) (sent : List Sent) : Type 0 where
  -- votes (VotesVotesWithLogCorrespond)
  pub ballots : (v t : ℕ) (b : Ballot) → γ.ballot v t ≡ just b → ValidBallot γ sent v t b
  -- elections (OneLeaderLogPerTerm, by the type of `elected`)
  pub elections : (t : ℕ) (r : Election) → γ.elected t ≡ just r → ValidElection k γ t r
  -- leaders' logs are logs (LeaderLogsContiguous, LeaderLogsSorted, LeaderLogsLogMatching, LeaderLogsTermSanity)
  pub leader_logs : (t : ℕ) → ValidLog γ (γ.leader_log t) t
  pub no_leader : (t : ℕ) → γ.elected t ≡ nothing → γ.leader_log t ≡ []

-- SERVERS

-- what matters here of a server's state; a step that changes nothing of it owes nothing
pub record View : Type 0 where
  pub term : ℕ
  pub voted : List ℕ
  pub leader : List ℕ
  pub log : List Entry
  pub commit : ℕ
  pub matches : List ℕ
  pub votes : List Bool
  pub kind : ℕ

abbrev pub view : State → View
view s =
    record {
      term = s.term;
      voted = s.voted;
      leader = s.leader;
      log = s.log;
      commit = s.commit;
      matches = s.matches;
      votes = s.votes;
      kind = s.kind;
    }

-- the elections below this term may have changed the log: those before the server's term, and that of its term once it follows a leader
abbrev pub horizon : View → ℕ
horizon s = pick (empty s.leader) s.term (suc s.term)

-- of a server v that wants to lead term t, with log l and the votes that it counts
pub record Candidate (γ : Ghost) (v t : ℕ) (l : List Entry) (votes : List Bool) : Type 0 where
  -- it voted for itself, with the log that it has (CandidatesVoteForSelves)
  pub own : γ.ballot v t ≡ just (record { candidate = v; log = l })
  -- its term is above its log's (CandidateTermGtLog, CurrentTermGtZero)
  pub earlier : last_term l < t
  -- it was not elected in its term yet
  pub not_elected : (r : Election) → γ.elected t ≡ just r → r.leader ≡ v → ⊥
  -- the votes that it counts were cast for it (VotesCorrect, CroniesCorrect)
  pub votes_cast : (x : ℕ) → nth false votes x ≡ true → VotedFor γ t v x

-- of a server v that leads term t, with log l and what it believes that the others have
pub record Leader (γ : Ghost) (sent : List Sent) (v t : ℕ) (l : List Entry) (matches : List ℕ) : Type 0 where
  -- it is the one elected in its term (LeadersHaveLeaderLogs; with OneLeaderLogPerTerm: OneLeaderPerTerm)
  pub election : Election
  pub elected : γ.elected t ≡ just election
  pub itself : election.leader ≡ v
  -- its log is the leader's log of its term
  pub all : γ.leader_log t ≡ l
  -- what it believes of others they acknowledged (MatchIndexAllEntries, MatchIndexLeader, MatchIndexSanity)
  pub acked : (x : ℕ) → 0 < nth 0 matches x → Ack γ sent x t (nth 0 matches x)

-- of server v in state s
pub record ServerInvariant (k : ℕ) (γ : Ghost) (sent : List Sent) (v : ℕ) (s : View) : Type 0 where
  -- its log is a log, with terms up to its own
  pub log : ValidLog γ s.log s.term
  -- its tables have a place for each server
  pub votes_size : length s.votes ≡ k
  pub matches_size : length s.matches ≡ k
  -- it voted in no later term, and in its own as `voted` says (VotesLeCurrentTerm, VotedForTermSanity, CroniesTerm)
  pub ballots : (t : ℕ) (b : Ballot) → γ.ballot v t ≡ just b → (t ≤ s.term) × (t ≡ s.term → s.voted ≡ b.candidate ∷ [])
  pub candidate : s.kind ≡ 1 → Candidate γ v s.term s.log s.votes
  pub leader : s.kind ≡ 2 → Leader γ sent v s.term s.log s.matches
  -- it acknowledged no later term (AppendEntriesReply terms; and who was elected in term t is in no earlier term)
  pub acks : (t n : ℕ) → Ack γ sent v t n → t ≤ s.term
  -- what it acknowledged is in its log, if all elections since that may have changed it inherited it (AllEntriesLog)
  pub keeps : (t n : ℕ) → Acked γ sent v t n → ((x : ℕ) → t < x → x < horizon s → Inherits γ n t x)
      → up_to n s.log ≡ up_to n (γ.leader_log t)
  -- its commit index is backed by a quorum, and within its log (CommitRecordedCommitted, TransitiveCommit, MaxIndexSanity)
  pub commit : 0 < s.commit → CommittedPrefix k γ sent s.commit s.term s.log

-- LETTERS

-- of entries es for after index i, of term u, sent by h in term t, with its commit index c. Nothing is said of entries that do not go
-- along: a letter may stop anywhere below the end of its sender's log
pub record ValidAppend (k : ℕ) (γ : Ghost) (sent : List Sent) (h t i u : ℕ) (es : List Entry) (c : ℕ) : Type 0 where
  -- it was sent by the leader of its term (AppendEntriesRequestsCameFromLeaders)
  pub election : Election
  pub elected : γ.elected t ≡ just election
  pub sender : election.leader ≡ h
  -- the entry before is there in that leader's log, with its term (PrevLogLeaderSublog, PrevLogCandidateEntriesTerm)
  pub before : 0 < length es → 0 < i → (x : Entry) × (entry_at i (γ.leader_log t) ≡ x ∷ []) × (x.term ≡ u)
  -- and the entries are what it has after that (AppendEntriesLeader, AppendEntriesRequestLeaderLogs, GhostLogCorrect)
  pub within : 0 < length es → i + length es ≤ last_index (γ.leader_log t)
  pub entries : 0 < length es → es ++ up_to i (γ.leader_log t) ≡ up_to (i + length es) (γ.leader_log t)
  -- what it says is committed is, in that leader's log
  pub commit : 0 < c → CommittedPrefix k γ sent c t (γ.leader_log t)

-- of a message from h to d
abbrev pub MessageInvariant : ℕ → Ghost → List Sent → ℕ → ℕ → Message → Type 0
-- who asks for votes voted for itself, with a log that ends as it says (RequestVoteTermSanity, RequestVoteMaxIndexMaxTerm)
MessageInvariant k γ sent h d (ask_vote t i u) =
    (l : List Entry) × (γ.ballot h t ≡ just (record { candidate = h; log = l })) × (last_index l ≡ i) × (last_term l ≡ u)
-- a vote given was cast (VotesCorrect, RequestVoteReplyTermSanity)
MessageInvariant k γ sent h d (vote t false) = Unit {0}
MessageInvariant k γ sent h d (vote t true) = VotedFor γ t d h
MessageInvariant k γ sent h d (append t i u es c) = ValidAppend k γ sent h t i u es c
-- what is acknowledged is in that leader's log (AppendEntriesReplySublog, AppendEntriesRequestReplyCorrespondence)
MessageInvariant k γ sent h d (appended t n false) = Unit {0}
MessageInvariant k γ sent h d (appended t n true) = (r : Election) × (γ.elected t ≡ just r) × (n ≤ last_index (γ.leader_log t))

abbrev pub LetterInvariant : ℕ → Ghost → List Sent → Sent → Type 0
LetterInvariant k γ sent x = MessageInvariant k γ sent x.by x.letter.to x.letter.message

-- ALL OF IT: k servers, their states, and all that was ever sent
pub record Invariant (k : ℕ) (state : ℕ → State) (sent : List Sent) : Type 0 where
  pub γ : Ghost
  pub ghost : GhostInvariant k γ sent
  pub servers : (v : ℕ) → ServerInvariant k γ sent v (view (state v))
  pub letters : (x : Sent) → In x sent → LetterInvariant k γ sent x
