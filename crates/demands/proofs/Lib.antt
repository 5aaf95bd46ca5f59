-- The exported calls as hosts make them.
--     Images      images of good states: what a receiving call leaves, and what it answers
--     Boards      a board's calls on images and on states
--     Bursts      the burst call on images and on states
--     Senders     a sender's calls on images and on states
--     Locked      no receiver and no sender is ever locked out; bursts on the images that are reached
--     Settings    the octets that keep draft and window stay
--     Received    bursts, list after list, are a board's calls
pub mod Images
pub mod Boards
pub mod Bursts
pub mod Senders
pub mod Locked
pub mod Settings
pub mod Received
pub mod Demands
pub mod Uses
