mod Events
mod Commands
mod Stepping
mod Statuses
mod Watching
