-- Laws of the calls on images.
--     ReceiverCalls   the receiving call
--     BurstCalls      the burst call
--     SenderCalls     the sender's calls
--     RecordingCalls  the calls on recordings
--     Kept            what the calls on recordings keep
--     Reserved        reserved flag bits are ignored
--     Refused         a refused call changes nothing that it was lent
--     NoWindow        an image without a window is refused with 1
pub mod ReceiverCalls
pub mod BurstCalls
pub mod SenderCalls
pub mod RecordingCalls
pub mod Kept
pub mod Reserved
pub mod Refused
pub mod NoWindow
