-- What callers cite of the proofs below.
pub use Rattle.control_word.proofs.Below.acquire_retire_Contents as acquire_retire_Contents
pub use Rattle.control_word.proofs.Below.acquire_retire_Images as acquire_retire_Images
pub use Rattle.control_word.proofs.Below.acquire_retire_Makes as acquire_retire_Makes
pub use Rattle.control_word.proofs.Below.acquire_retire_Wholes as acquire_retire_Wholes
pub use Rattle.control_word.proofs.Becoming as control_word_Becoming
pub use Rattle.control_word.proofs.Beginning as control_word_Beginning
pub use Rattle.control_word.proofs.Finding as control_word_Finding
pub use Rattle.control_word.proofs.Following as control_word_Following
pub use Rattle.control_word.proofs.Owning as control_word_Owning
pub use Rattle.control_word.proofs.Below.domain_rule_Acts as domain_rule_Acts
pub use Rattle.control_word.proofs.Below.domain_rule_Objects as domain_rule_Objects
pub use Rattle.control_word.proofs.Below.domain_rule_Others as domain_rule_Others
pub use Rattle.control_word.proofs.Below.domain_rule_StartShown as domain_rule_StartShown
