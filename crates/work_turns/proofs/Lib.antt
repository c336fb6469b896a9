pub mod TurnsTaken
